use Rattle.std.proofs.Common.{◌≡◌, ℕ, ◌+◌, ◌-◌, ◌*◌, ◌/◌, ◌%◌, ◌^◌, ◌<◌, ◌≤◌, List, length, get_or, take, ap, ◌∙◌, arith}
use Rattle.std.proofs.lemmas.List.{length-take-le}
use Rattle.std.proofs.lemmas.Nat.{mod_below}
use Rattle.packing.specs.Meaning.{len_of}
use Rattle.packing.specs.Packed.{start, four}
use Rattle.packing.proofs.Starts.{start_in, start_small, field_is, fits_take}
use Rattle.packing.proofs.Lookups.{len_fits, len_most}
use Rattle.immutable_bitset.proofs.lookup.Filled.start_at.Goals as goal

pub returns-clause-is : goal.returns-clause-is
returns-clause-is c =
    let ws : List ℕ = c.args.self.now.words.now in
    let s = c.args.self.now.sound in
    let n : ℕ = len_of c.args.self.now.numbers.now in
    let L : List ℕ = take n ws in
    let m : ℕ = c.args.m in
    let h : n ≤ length ws = len_fits c.args.self.now.numbers.now ws s.rows s.counts in
    let long : length L ≡ n = length-take-le n ws h in
    let small : (x : ℕ) → start L x < 65536 = start_small L (fits_take ws n c.args.self.now.fits h) (omega (arith, long, len_most c.args.self.now.numbers.now ws s.rows s.counts)) in
    let word : get_or ws (c.level1_len.result + m / 4) 0 ≡ four L (4 * (m / 4)) = ap (λ (x : ℕ). get_or ws (x + m / 4) 0) c.level1_len.ensures ∙ s.starts (m / 4) (omega (arith, c.requires)) in
    let split : 4 * (m / 4) + m % 4 ≡ m = omega arith in
    c.from.ensures
    ∙ c.start_in.ensures
    ∙ ap (λ (x : ℕ). x / 2 ^ (48 - 16 * (m % 4)) % 65536) word
    ∙ field_is L (4 * (m / 4)) (m % 4) (mod_below m 4 (omega arith)) small
    ∙ ap (start L) split
    ∙ start_in L m (omega (arith, long, c.requires))

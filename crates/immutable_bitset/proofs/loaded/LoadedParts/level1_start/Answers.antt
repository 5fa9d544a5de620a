use Rattle.std.proofs.Common.{◌≡◌, ℕ, ◌+◌, ◌/◌, List, get_or, drop, sym, ap, ◌∙◌, arith}
use Rattle.std.proofs.lemmas.List.{get_or-drop, get_or_past}
use Rattle.packing.proofs.Lengths.{length_singles}
use Rattle.packing.proofs.Unpack.{get_or_singles}
use Rattle.packing.specs.Meaning.{len_of}
use Rattle.packing.specs.StartWords.{field_in}
use Rattle.packing.specs.declared.Numbers.{Numbers}
use Rattle.serialization.specs.Stored.{field_at}
use Rattle.immutable_bitset.proofs.loaded.LoadedParts.level1_start.Goals as goal

pub returns-then-m-len : goal.returns-then-m-len
returns-then-m-len c =
    let m : Numbers = c.args.self.now.numbers.now in
    let ws : List ℕ = c.args.self.now.words.now in
    let at : c.level1_len-len.result + c.args.m / 4 ≡ len_of m + c.args.m / 4 = omega (arith, c.level1_len-len.ensures) in
    c.start_in.ensures
    ∙ ap (λ (x : ℕ). field_in (get_or ws x 0) c.args.m) at
    ∙ ap (λ (w : ℕ). field_in w c.args.m) (sym (get_or-drop (len_of m) ws (c.args.m / 4) 0))
    ∙ sym (get_or_singles (field_at (drop (len_of m) ws)) (len_of m) c.args.m (omega (arith, c.if-m-len.true, c.level1_len-len.ensures)))

pub returns-else-m-len : goal.returns-else-m-len
returns-else-m-len c =
    let m : Numbers = c.args.self.now.numbers.now in
    let ws : List ℕ = c.args.self.now.words.now in
    sym (get_or_past _ c.args.m 0 (omega (arith, length_singles (field_at (drop (len_of m) ws)) (len_of m), c.if-m-len.false, c.level1_len-len.ensures)))

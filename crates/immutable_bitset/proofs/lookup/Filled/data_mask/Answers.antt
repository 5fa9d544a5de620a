use Rattle.std.proofs.Common.{◌≡◌, ℕ, Bool, true, false, cond, ◌&&◌, Some, None, sym, ap, ◌∙◌}
use Rattle.packing.specs.Meaning.{kdof, held_at, block_place, bit_from}
use Rattle.immutable_bitset.proofs.lookup.Filled.data_mask.Goals as goal

-- an answer that is a place: the block is stored there
on : (b : Bool) (x p : ℕ) → Some x ≡ cond b (Some p) None → (b ≡ true) × (x ≡ p)
on true x p e = (cc, cc)
on false x p e = cc

pub read_mask-requires : goal.read_mask-requires
unfolding kdof
read_mask-requires c = c.in-Some.ensures.fits

pub returns-in-Some : goal.returns-in-Some
unfolding kdof
returns-in-Some c t =
    let m = c.args.self.now.numbers.now in
    let ws = c.args.self.now.words.now in
    let o = on (held_at m ws c.args.i c.args.j) c.in-Some.at (block_place m ws c.args.i c.args.j) c.in-Some.ensures.is in
    c.read_mask.ensures t
    ∙ ap (λ (x : ℕ). bit_from ws x (kdof m) t) o.1
    ∙ ap (λ (b : Bool). b && bit_from ws (block_place m ws c.args.i c.args.j) (kdof m) t) (sym o.0)

-- What a draft holds, and room in its words.
use Rattle.std.proofs.Common.{◌≡◌, ℕ, ◌*◌, ◌/◌, ◌≤◌, Bool, cond, ◌&&◌, ltb, leb, List, Some, None, Option, sym, ap, ◌∙◌, ⊎_elim, mul_assoc, arith}
use Rattle.std.proofs.lemmas.Bool.{cases_lt, cases_Bool, le-ltb, leb-true, and_left}
use Rattle.bit_block.specs.declared.config.Config.{Config}
use Rattle.bit_block.specs.Widths.{bits, capacity}
use Rattle.bit_block.proofs.Places.{sized}
use Rattle.bitset_interface.specs.Source.{holds}
use Rattle.bitset_interface.specs.Spread.{position}
use Rattle.bitset_interface.proofs.Positions.{indexed, spread-holds}
use Rattle.draft.specs.Drafts.{stored, draft_words, fitting, marked}

-- marked words hold the positions below the capacity whose bits are stored
pub marked-holds : (o : Option Config) (xs : List ℕ) (p : ℕ) → holds (marked o xs) p ≡ (ltb p (capacity o) && stored xs p)
marked-holds o xs p =
    spread-holds o (λ i j k. stored xs (position o i j k)) p
    ∙ ⊎_elim
    (λ h. ap (λ (x : ℕ). ltb p (capacity o) && stored xs x) (indexed o p h).back)
    (λ h. and_left (ltb p (capacity o)) _ (le-ltb p (capacity o) h) ∙ sym (and_left (ltb p (capacity o)) (stored xs p) (le-ltb p (capacity o) h)))
    (cases_lt p (capacity o))

-- a capacity is whole words
whole : (c : Config) → draft_words c * 64 ≡ capacity (Some c)
whole c =
    let v : ℕ = bits c.«data» in
    let q : ℕ = bits c.level0 * (bits c.level1 * (v / 64)) in
    let e : q * 64 ≡ bits c.level0 * (bits c.level1 * v) =
    mul_assoc (bits c.level0) (bits c.level1 * (v / 64)) 64
    ∙ ap (λ (x : ℕ). bits c.level0 * x) (mul_assoc (bits c.level1) (v / 64) 64 ∙ ap (λ (x : ℕ). bits c.level1 * x) (sized c.«data»).whole) in
    omega (arith, e)

-- a draft that is not void has room for its positions
pub room : (c : Config) (n : ℕ) → capacity (fitting c n) ≤ n * 64
room c n =
    ⊎_elim
    (λ e. omega (arith, ap (λ (b : Bool). capacity (cond b (Some c) None)) e, whole c, leb-true (draft_words c) n e))
    (λ e. omega (arith, ap (λ (b : Bool). capacity (cond b (Some c) None)) e))
    (cases_Bool (leb (draft_words c) n))

-- Operations on bits, and the laws that make a layer of one lawful.
use Rattle.std.specs.Prelude.{◌≡◌, Bool, true, false, not, ◌&&◌, ◌||◌, ◌⊎◌, refl}
use Rattle.std.proofs.Common.{inl, inr, ⊎_elim}
use Rattle.std.proofs.lemmas.Bool.{and_parts, and_from, or_cases, or_left, or_right, false≢true}
use Rattle.bit_block.specs.Bit.{exclusive}

-- an operation on bits that raises none where neither is raised
abbrev pub Raises : (Bool → Bool → Bool) → Type 0
Raises f = (p q : Bool) → f p q ≡ true → (p ≡ true) ⊎ (q ≡ true)

-- where g raises a bit, f does at bits that are above
abbrev pub Above : (Bool → Bool → Bool) → (Bool → Bool → Bool) → Type 0
Above f g = (p q p' q' : Bool) → (p ≡ true → p' ≡ true) → (q ≡ true → q' ≡ true) → g p q ≡ true → f p' q' ≡ true

-- an operation that raises a bit where either is raised
abbrev pub Covers : (Bool → Bool → Bool) → Type 0
Covers f = (p q : Bool) → (p ≡ true) ⊎ (q ≡ true) → f p q ≡ true

-- what makes a layer lawful, by the operation on bits of levels 0 and 1, that on data bits, and whether it keeps trust: no bit is raised of
-- nothing, none where the bit above is not, and a layer that keeps trust raises each bit that one of the two raises
pub record OperationLaws (upper bits : Bool → Bool → Bool) (keeps : Bool) : Type 0 where
  pub upper_raises : Raises upper
  pub bits_raises : Raises bits
  pub upper_above : Above upper upper
  pub bits_above : Above upper bits
  pub upper_covers : keeps ≡ true → Covers upper
  pub bits_covers : keeps ≡ true → Covers bits

-- "or" raises what either raises
or_covers : Covers (λ p q. p || q)
or_covers p q h = ⊎_elim (or_left p q) (or_right p q) h

-- "and" raises none of nothing
and_raises : Raises (λ p q. p && q)
and_raises p q e = inl (and_parts p q e).0

-- nor do "or", the first alone, and what the first has and the second lacks
or_raises : Raises (λ p q. p || q)
or_raises = or_cases

first_raises : Raises (λ p q. p)
first_raises p q e = inl e

without_raises : Raises (λ p q. p && not q)
without_raises p q e = inl (and_parts p (not q) e).0

-- nor does "just one"
one_raises : Raises exclusive
one_raises true q e = inl refl
one_raises false q e = inr e

-- "and" of what is above
and_above : Above (λ p q. p && q) (λ p q. p && q)
and_above p q p' q' f g e = let l = and_parts p q e in and_from p' q' (f l.0) (g l.1)

-- "or" stands above each operation that raises none of nothing
or_above : (f : Bool → Bool → Bool) → Raises f → Above (λ p q. p || q) f
or_above f r p q p' q' hp hq e = ⊎_elim (λ t. or_left p' q' (hp t)) (λ t. or_right p' q' (hq t)) (r p q e)

-- both keep the laws
pub and_laws : OperationLaws (λ p q. p && q) (λ p q. p && q) false
and_laws = record {
  upper_raises = and_raises;
  bits_raises = and_raises;
  upper_above = and_above;
  bits_above = and_above;
  upper_covers = λ t. absurd (false≢true t);
  bits_covers = λ t. absurd (false≢true t);
}

-- at least one
pub or_laws : OperationLaws (λ p q. p || q) (λ p q. p || q) true
or_laws = record {
  upper_raises = or_raises;
  bits_raises = or_raises;
  upper_above = or_above (λ p q. p || q) or_raises;
  bits_above = or_above (λ p q. p || q) or_raises;
  upper_covers = λ t. or_covers;
  bits_covers = λ t. or_covers;
}

-- the first only, under the first's upper bits
pub sub_laws : OperationLaws (λ p q. p) (λ p q. p && not q) false
sub_laws = record {
  upper_raises = first_raises;
  bits_raises = without_raises;
  upper_above = λ p q p' q' f g e. f e;
  bits_above = λ p q p' q' f g e. f (and_parts p (not q) e).0;
  upper_covers = λ t. absurd (false≢true t);
  bits_covers = λ t. absurd (false≢true t);
}

-- just one, under the upper bits of either
pub xor_laws : OperationLaws (λ p q. p || q) exclusive false
xor_laws = record {
  upper_raises = or_raises;
  bits_raises = one_raises;
  upper_above = or_above (λ p q. p || q) or_raises;
  bits_above = or_above exclusive one_raises;
  upper_covers = λ t. absurd (false≢true t);
  bits_covers = λ t. absurd (false≢true t);
}

-- A layer over two lawful sources is lawful.
use Rattle.std.specs.Prelude.{◌≡◌, ℕ, ◌<◌, Bool, true, false, not, ◌&&◌, ◌||◌, Option}
use Rattle.std.proofs.Common.{inl, inr, ⊎_elim}
use Rattle.std.proofs.lemmas.Bool.{and_parts, and_from}
use Rattle.bit_block.specs.Bit.{exclusive}
use Rattle.bit_block.specs.declared.config.Config.{Config}
use Rattle.bit_block.specs.Widths.{w0, w1, wd, shared, live}
use Rattle.bitset_interface.specs.Source.{Source, Lawful}
use Rattle.ops.specs.Layer.{layer, applied, both, either, without, one_of}
use Rattle.ops.specs.Operations.{Raises, Above, Covers, OperationLaws, and_laws, or_laws, sub_laws, xor_laws}
use Rattle.ops.specs.Shares.{shared-left, shared_right}

-- a raised bit of a layer lies below the width, as those below it do
module _ (x y : Option Config) (w : Option Config → ℕ) (n : ℕ) (f : Bool → Bool → Bool) (r : Raises f) where
  bounded : (p q : Bool) → (p ≡ true → n < w x) → (q ≡ true → n < w y) → (live x y && f p q) ≡ true → n < w (shared x y)
  bounded p q hp hq e =
      let l = and_parts (live x y) (f p q) e in
      ⊎_elim
      (λ t. rw (shared-left x y l.0) (hp t))
      (λ t. rw (shared_right x y l.0) (hq t))
      (r p q l.1)

-- a layer of three operations on bits, one for each level
module _ (f0 f1 f2 : Bool → Bool → Bool) (r0 : Raises f0) (r1 : Raises f1) (r2 : Raises f2) (m1 : Above f0 f1) (m2 : Above f1 f2) (t : Bool)
    (a b : Source) (la : Lawful a) (lb : Lawful b)
    (u0 : (i : ℕ) → t ≡ true → f0 (a.up0 i) (b.up0 i) ≡ true → (j : ℕ) × (f1 (a.up1 i j) (b.up1 i j) ≡ true))
    (u1 : (i j : ℕ) → t ≡ true → f1 (a.up1 i j) (b.up1 i j) ≡ true → (k : ℕ) × (f2 (a.up2 i j k) (b.up2 i j k) ≡ true)) where
  abbrev on : Bool
  on = live a.conf b.conf

  layer_lawful : Lawful (layer f0 f1 f2 t a b)
  layer_lawful = record {
    below0 = λ i. bounded a.conf b.conf w0 i f0 r0 (a.up0 i) (b.up0 i) (la.below0 i) (lb.below0 i);
    below1 = λ i j. bounded a.conf b.conf w1 j f1 r1 (a.up1 i j) (b.up1 i j) (la.below1 i j) (lb.below1 i j);
    below2 = λ i j k. bounded a.conf b.conf wd k f2 r2 (a.up2 i j k) (b.up2 i j k) (la.below2 i j k) (lb.below2 i j k);
    under1 = λ i j e.
        let l = and_parts on (f1 (a.up1 i j) (b.up1 i j)) e in
        and_from on (f0 (a.up0 i) (b.up0 i)) l.0 (m1 (a.up1 i j) (b.up1 i j) (a.up0 i) (b.up0 i) (la.under1 i j) (lb.under1 i j) l.1);
    under2 = λ i j k e.
        let l = and_parts on (f2 (a.up2 i j k) (b.up2 i j k)) e in
        and_from on (f1 (a.up1 i j) (b.up1 i j)) l.0 (m2 (a.up2 i j k) (b.up2 i j k) (a.up1 i j) (b.up1 i j) (la.under2 i j k) (lb.under2 i j k) l.1);
    full0 = λ i h e.
        let l = and_parts on (f0 (a.up0 i) (b.up0 i)) e in
        let u = u0 i (and_parts on t h).1 l.1 in
        (u.0, and_from on (f1 (a.up1 i u.0) (b.up1 i u.0)) l.0 u.1);
    full1 = λ i j h e.
        let l = and_parts on (f1 (a.up1 i j) (b.up1 i j)) e in
        let u = u1 i j (and_parts on t h).1 l.1 in
        (u.0, and_from on (f2 (a.up2 i j u.0) (b.up2 i j u.0)) l.0 u.1);
  }

-- where two sources are trusted and the operations cover, a raised bit of a layer stands over a raised bit
over : (f g : Bool → Bool → Bool) → Raises f → Covers g
    → (p q : Bool) (p' q' : ℕ → Bool) → (p ≡ true → (n : ℕ) × (p' n ≡ true)) → (q ≡ true → (n : ℕ) × (q' n ≡ true))
    → f p q ≡ true → (n : ℕ) × (g (p' n) (q' n) ≡ true)
over f g r c p q p' q' hp hq e =
    ⊎_elim (λ t. let u = hp t in (u.0, c (p' u.0) (q' u.0) (inl u.1))) (λ t. let u = hq t in (u.0, c (p' u.0) (q' u.0) (inr u.1))) (r p q e)

-- a layer of an operation that keeps its laws
module _ (f g : Bool → Bool → Bool) (keeps : Bool) (laws : OperationLaws f g keeps) (a b : Source) (la : Lawful a) (lb : Lawful b) where
  -- what the trust of a layer says
  trusts : (keeps && (a.trust && b.trust)) ≡ true → (keeps ≡ true) × (a.trust ≡ true) × (b.trust ≡ true)
  trusts h =
      let k = and_parts keeps (a.trust && b.trust) h in
      let t = and_parts a.trust b.trust k.1 in
      (k.0, t.0, t.1)

  pub applied_lawful : Lawful (applied f g keeps a b)
  applied_lawful =
      layer_lawful f f g laws.upper_raises laws.upper_raises laws.bits_raises laws.upper_above laws.bits_above (keeps && (a.trust && b.trust)) a b la lb
      (λ i h. let t = trusts h in over f f laws.upper_raises (laws.upper_covers t.0) (a.up0 i) (b.up0 i) (a.up1 i) (b.up1 i) (la.full0 i t.1) (lb.full0 i t.2))
      (λ i j h. let t = trusts h in over f g laws.upper_raises (laws.bits_covers t.0) (a.up1 i j) (b.up1 i j) (a.up2 i j) (b.up2 i j) (la.full1 i j t.1) (lb.full1 i j t.2))

-- the four layers
pub both_lawful : (a b : Source) → Lawful a → Lawful b → Lawful (both a b)
both_lawful = applied_lawful (λ p q. p && q) (λ p q. p && q) false and_laws

pub either_lawful : (a b : Source) → Lawful a → Lawful b → Lawful (either a b)
either_lawful = applied_lawful (λ p q. p || q) (λ p q. p || q) true or_laws

pub without_lawful : (a b : Source) → Lawful a → Lawful b → Lawful (without a b)
without_lawful = applied_lawful (λ p q. p) (λ p q. p && not q) false sub_laws

pub one_of_lawful : (a b : Source) → Lawful a → Lawful b → Lawful (one_of a b)
one_of_lawful = applied_lawful (λ p q. p || q) exclusive false xor_laws

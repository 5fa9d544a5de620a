-- Which positions a layer holds.
use Rattle.std.proofs.Common.{◌≡◌, ℕ, Bool, true, false, ◌&&◌, ltb, Option, sym, refl, ap, ◌∙◌, ap₂, ⊎_elim}
use Rattle.std.proofs.lemmas.Bool.{cases_Bool, and_right, false≢true}
use Rattle.bit_block.specs.declared.config.Config.{Config}
use Rattle.bit_block.specs.Widths.{capacity, shared, live, index0, index1, index_d}
use Rattle.bitset_interface.specs.Source.{Source, holds}
use Rattle.ops.specs.Layer.{layer, applied}
use Rattle.ops.specs.Operations.{Raises}
use Rattle.ops.specs.Shares.{shared-left, shared_right}

-- a layer of three operations on bits, of which that on data bits raises nothing of nothing
module _ (f0 f1 f : Bool → Bool → Bool) (none : f false false ≡ false) (t : Bool) (a b : Source) where
  -- a condition on the result of f is one on what f is given
  under : (c x y : Bool) → (c && f x y) ≡ f (c && x) (c && y)
  under true x y = refl
  under false x y = sym none

  -- a source's answer, by a configuration that is its own
  by : (s : Source) (o : Option Config) (p : ℕ) → o ≡ s.conf → (ltb p (capacity o) && s.up2 (index0 o p) (index1 o p) (index_d o p)) ≡ holds s p
  by s o p e = ap (λ (c : Option Config). ltb p (capacity c) && s.up2 (index0 c p) (index1 c p) (index_d c p)) e

  -- over one configuration, the operation on what the two hold; over others, nothing
  pub layer_holds : (p : ℕ) → holds (layer f0 f1 f t a b) p ≡ (live a.conf b.conf && f (holds a p) (holds b p))
  layer_holds p =
      let o : Option Config = shared a.conf b.conf in
      ⊎_elim
      (λ e. rw e (under (ltb p (capacity o)) (a.up2 (index0 o p) (index1 o p) (index_d o p)) (b.up2 (index0 o p) (index1 o p) (index_d o p))
      ∙ ap₂ f (by a o p (shared-left a.conf b.conf e)) (by b o p (shared_right a.conf b.conf e))))
      (λ e. rw e (and_right (ltb p (capacity o)) false refl))
      (cases_Bool (live a.conf b.conf))

-- a layer of one operation
module _ (upper f : Bool → Bool → Bool) (keeps : Bool) (raises : Raises f) (a b : Source) where
  -- nothing is raised of nothing
  none : f false false ≡ false
  none = ⊎_elim (λ e. absurd (⊎_elim false≢true false≢true (raises false false e))) (λ e. e) (cases_Bool (f false false))

  -- holds what the operation raises of what the two hold
  pub applied_holds : (p : ℕ) → holds (applied upper f keeps a b) p ≡ (live a.conf b.conf && f (holds a p) (holds b p))
  applied_holds = layer_holds upper upper f none (keeps && (a.trust && b.trust)) a b

-- Words that give options.
use Rattle.std.proofs.Common.{◌≡◌, ◌≢◌, ℕ, ◌<◌, arith, inl, inr, get_or, slice_index_or, Result, Ok, Err, true, false, nat_eq, List, [], ◌∷◌, ◌++◌, length, take, drop, codes, Bor, Option, Some, None, ap, sym, subst, ◌∙◌}
use Rattle.std.specs.Option.{MatchOption}
use Rattle.std.specs.Result.{MatchResult, IsErr}
use Rattle.std.specs.Cmp.Lexicographic.{pointwise, same_text, told_text}
use Rattle.std.proofs.lemmas.List.{take-append-drop}
use Rattle.std.proofs.Math.Seq.{take-append_seam}
use Rattle.commands.specs.declared.options.LoadOptions.{LoadOptions}
use Rattle.commands.specs.Options.{Adds, AddsWords, AddsLimit, AddsDevice, SpellsOptions}

-- what stands behind a key, as `strip_prefix` finds it
pub behind_key : (key w : List ℕ) (L : Bor (List ℕ) → Type 0) (r : Option (Bor (List ℕ))) → MatchOption r (pointwise nat_eq (take (length key) w) key ≡ false) (λ x. (pointwise nat_eq (take (length key) w) key ≡ true) × (x.now ≡ drop (length key) w) × L x) → MatchOption r ((rest : List ℕ) → w ≢ key ++ rest) (λ x. w ≡ key ++ x.now)
behind_key key w L None h = λ rest e. told_text (take (length key) w) key false (sym h) (ap (λ s. take (length key) s) e ∙ take-append_seam key rest)
behind_key key w L (Some x) h = let same = same_text (take (length key) w) key (sym h.0) in let whole = take-append-drop (length key) w in cc

-- a word that begins with a key gives what stands behind it
module _ (o : LoadOptions) (w digits : List ℕ) (p : LoadOptions) where
  pub of_words : w ≡ codes "words=" ++ digits → Adds o w p → AddsWords o digits p
  of_words e (ds, inl h) = let same : ds ≡ digits = ap (λ s. drop 6 s) (sym h.0 ∙ e) in subst (λ s. AddsWords o s p) same h.1
  of_words e (ds, inr (inl h)) = let heads : 108 ≡ 119 = ap (λ s. get_or s 0 0) (sym h.0 ∙ e) in absurd (omega (arith, heads))
  of_words e (ds, inr (inr h)) = let heads : 100 ≡ 119 = ap (λ s. get_or s 0 0) (sym h.0 ∙ e) in absurd (omega (arith, heads))

  pub of_limit : w ≡ codes "limit=" ++ digits → Adds o w p → AddsLimit o digits p
  of_limit e (ds, inl h) = let heads : 119 ≡ 108 = ap (λ s. get_or s 0 0) (sym h.0 ∙ e) in absurd (omega (arith, heads))
  of_limit e (ds, inr (inl h)) = let same : ds ≡ digits = ap (λ s. drop 6 s) (sym h.0 ∙ e) in subst (λ s. AddsLimit o s p) same h.1
  of_limit e (ds, inr (inr h)) = let heads : 100 ≡ 108 = ap (λ s. get_or s 0 0) (sym h.0 ∙ e) in absurd (omega (arith, heads))

  pub of_device : w ≡ codes "device=" ++ digits → Adds o w p → AddsDevice o digits p
  of_device e (ds, inl h) = let heads : 119 ≡ 100 = ap (λ s. get_or s 0 0) (sym h.0 ∙ e) in absurd (omega (arith, heads))
  of_device e (ds, inr (inl h)) = let heads : 108 ≡ 100 = ap (λ s. get_or s 0 0) (sym h.0 ∙ e) in absurd (omega (arith, heads))
  of_device e (ds, inr (inr h)) = let same : ds ≡ digits = ap (λ s. drop 7 s) (sym h.0 ∙ e) in subst (λ s. AddsDevice o s p) same h.1

-- a word gives options in one way
pub one_way : (o : LoadOptions) (w : List ℕ) (p q : LoadOptions) → Adds o w p → Adds o w q → p ≡ q
one_way o w p q (ds, inl h) k = h.1.3 ∙ sym (of_words o w ds q h.0 k).3
one_way o w p q (ds, inr (inl h)) k = h.1.3 ∙ sym (of_limit o w ds q h.0 k).3
one_way o w p q (ds, inr (inr h)) k = h.1.3 ∙ sym (of_device o w ds q h.0 k).3

-- the options of words begin with the first word's
pub options_of : (o p : LoadOptions) (first : Bor (List ℕ)) (ws : List (Bor (List ℕ))) → 0 < length ws → SpellsOptions o ws p → (q : LoadOptions) × Adds o (slice_index_or ws 0 first).now q × SpellsOptions q (drop 1 ws) p
options_of o p first [] l h = absurd (omega arith)
options_of o p first (w ∷ ws) l h = h

-- where the first word gives none, the words give none
pub no_first : {T E : Type 0} (o : LoadOptions) (first : Bor (List ℕ)) (ws : List (Bor (List ℕ))) (r : Result T E) (P : T → Type 0) → IsErr r → 0 < length ws → ((q : LoadOptions) → Adds o (slice_index_or ws 0 first).now q → ⊥) → MatchResult r P (λ _. (p : LoadOptions) → SpellsOptions o ws p → ⊥)
no_first o first ws (Ok x) P e l none = absurd cc
no_first o first ws (Err x) P e l none = λ p h. let s = options_of o p first ws l h in none s.0 s.1

-- where the first word gives some, the rest decides
pub then_rest : {E : Type 0} (o q : LoadOptions) (first : Bor (List ℕ)) (ws : List (Bor (List ℕ))) (r : Result LoadOptions E) → 0 < length ws → Adds o (slice_index_or ws 0 first).now q → MatchResult r (SpellsOptions q (drop 1 ws)) (λ _. (p : LoadOptions) → SpellsOptions q (drop 1 ws) p → ⊥) → MatchResult r (SpellsOptions o ws) (λ _. (p : LoadOptions) → SpellsOptions o ws p → ⊥)
then_rest o q first [] r l a h = absurd (omega arith)
then_rest o q first (w ∷ ws) (Ok p) l a h = (q, a, h)
then_rest o q first (w ∷ ws) (Err e) l a h = λ p k. h p (subst (λ s. SpellsOptions s ws p) (one_way o w.now k.0 q k.1 a) k.2)

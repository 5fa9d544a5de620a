-- Texts of three widths with slashes between them, by their parts.
use Rattle.std.proofs.Common.{◌≡◌, ◌≢◌, ℕ, Bool, true, false, not, List, [], ◌∷◌, ◌++◌, Option, Some, None, Bor, get_or, nat_eq, sym, refl, ap, ◌∙◌, append-nil, append_assoc, length, length-append, arith, rules}
use Rattle.std.specs.List.{All, slice_split, join_with_byte}
use Rattle.std.specs.Bool.{then_some}
use Rattle.std.specs.Option.{MatchOption, is_some}
use Rattle.std.specs.Iterator.{AlwaysYields}
use Rattle.std.specs.Iterator.Runs.{Run, EachRunFrom}
use Rattle.std.specs.Slice.Iter.{split_steps, split_rest, split_done, split_callee}
use Rattle.std.specs.Fn.{CalledAt}
use denote.Param.Members.{Mut}
use Rattle.std.proofs.lemmas.Iterator.Splits.{YieldsList-from_slice_split}
use Rattle.std.proofs.lemmas.List.Splits.{slice_split_at, slice_split_none, join_with_byte-slice_split}
use Rattle.bit_block.specs.declared.config.Config.{Config}
use Rattle.bit_block.specs.declared.config.Width.{Width}
use Rattle.bit_block.specs.declared.config.Width.TheVariants.{W64, W128, W256}
use Rattle.commands.specs.Operands.{width_text, config_text}

-- the parts of a text between its slashes
abbrev pub parts : List ℕ → List (List ℕ)
parts t = slice_split (λ b. nat_eq b 47) t

-- no width has a slash
no_slash : (w : Width) → All (λ b. nat_eq b 47 ≡ false) (width_text w)
no_slash W64 = search rules
no_slash W128 = search rules
no_slash W256 = search rules

-- the texts of a configuration's widths
abbrev pub width_texts : Config → List (List ℕ)
width_texts c = width_text c.level0 ∷ (width_text c.level1 ∷ (width_text c.«data» ∷ []))

-- three texts that are those of its widths
pub three_texts : (x y z : List ℕ) (c : Config) → x ≡ width_text c.level0 → y ≡ width_text c.level1 → z ≡ width_text c.«data» → x ∷ (y ∷ (z ∷ [])) ≡ width_texts c
three_texts x y z c first second third = cc

-- the texts of its widths are the parts of its text
parts-config_text : (c : Config) → parts (config_text c) ≡ width_texts c
parts-config_text c =
    slice_split_at _ (width_text c.level0) 47 _ (no_slash c.level0) refl
    ∙ ap (λ ps. width_text c.level0 ∷ ps) (slice_split_at _ (width_text c.level1) 47 _ (no_slash c.level1) refl
    ∙ ap (λ ps. width_text c.level1 ∷ ps) (slice_split_none _ (width_text c.«data») (no_slash c.«data»)))

-- a text whose parts are three widths
config_of_parts : (t : List ℕ) (c : Config) → parts t ≡ width_texts c → t ≡ config_text c
config_of_parts t c h = sym (join_with_byte-slice_split 47 t) ∙ ap (λ ps. join_with_byte 47 ps) h

-- an iterator over ys that has given some of them and is at s
pub record HasGiven {S A B : Type 0} (steps : S → Option A → S → Type 0) (v : A → B) (ys : List B) (given : List B) (s : S) : Type 0 where
  pub left : List B
  pub is : ys ≡ given ++ left
  pub gives : AlwaysYields steps v s left

module _ {S A B : Type 0} {steps : S → Option A → S → Type 0} {v : A → B} {ys given : List B} {s : S} (now : HasGiven steps v ys given s) where
  -- it gives one more
  pub gives_one : (t : S) (x : A) → steps s (Some x) t → HasGiven steps v ys (given ++ v x ∷ []) t
  gives_one t x h = elim now.left as (λ l. ys ≡ given ++ l → AlwaysYields steps v s l → HasGiven steps v ys (given ++ v x ∷ []) t) [
    | [] ↦ λ is all. absurd (all x t h)
    | y ∷ left ↦ λ is all. let p = all.1 x t h in
        record { left = left; is = is ∙ ap (λ z. given ++ z ∷ left) (sym p.0) ∙ sym (append_assoc given (v x ∷ []) left); gives = p.1 }
  ] now.is now.gives

  -- it gives no more
  pub gives_none : (t : S) → steps s None t → ys ≡ given
  gives_none t h = elim now.left as (λ l. ys ≡ given ++ l → AlwaysYields steps v s l → ys ≡ given) [
    | [] ↦ λ is all. is ∙ append-nil given
    | y ∷ left ↦ λ is all. absurd (all.0 t h)
  ] now.is now.gives

-- a split of a text at its slashes has given nothing
pub begins_split : {F : Type 0} (g : Mut F (Bor ℕ × Unit {0}) Bool) (s : _) (f : F) (Q : Run (split_steps g) → Type 0) (t : List ℕ) → EachRunFrom (split_steps g) s Q → split_rest s ≡ t → split_done s ≡ false → split_callee s ≡ f → ((x : ℕ) (b : Bool) (q : F) → CalledAt g f x b q → (q ≡ f) × (b ≡ nat_eq x 47)) → HasGiven (split_steps g) (λ (x : Bor (List ℕ)). x.now) (parts t) [] s
begins_split g s f Q t runs rest done closure tests = record { left = parts t; is = refl; gives = (YieldsList-from_slice_split g (λ b. nat_eq b 47) t rest done closure tests).runs }

-- a split that has given some of the parts of a text
module _ {S : Type 0} {steps : S → Option (Bor (List ℕ)) → S → Type 0} (t : List ℕ) {given : List (List ℕ)} {s : S} (now : HasGiven steps (λ (x : Bor (List ℕ)). x.now) (parts t) given s) where
  -- each is a width of the configuration that the text spells
  pub same_part : (c : Config) → t ≡ config_text c → (i : ℕ) → get_or (given ++ now.left) i [] ≡ get_or (width_texts c) i []
  same_part c e i = ap (λ ps. get_or ps i []) (sym now.is ∙ ap parts e ∙ parts-config_text c)

  -- where they are three widths, the text spells a configuration if nothing is left
  pub ends_config : (c : Config) → given ≡ width_texts c → (next : Option (Bor (List ℕ))) (u : S) (last : Bool) → steps s next u → is_some next ≡ not last → MatchOption (then_some last c) ((k : Config) → t ≢ config_text k) (λ k. t ≡ config_text k)
  ends_config c widths None u true h l = config_of_parts t c (gives_none now u h ∙ widths)
  ends_config c widths None u false h l = absurd (cc l)
  ends_config c widths (Some y) u true h l = absurd (cc l)
  ends_config c widths (Some y) u false h l = λ k e.
      omega (arith, length-append {A = List ℕ}, ap length (gives_one now u y h).is, ap length (ap parts e ∙ parts-config_text k), ap length widths)

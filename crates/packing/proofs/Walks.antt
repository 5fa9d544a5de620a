-- Walks along the raised bits of a mask.
use Rattle.std.proofs.Common.{◌≡◌, ℕ, ◌+◌, ◌<◌, ◌≤◌, Bool, true, false, ◌&&◌, ◌||◌, eqb, ltb, Some, None, sym, ap, ◌∙◌, ap₂, ⊎_elim, arith}
use Rattle.std.proofs.lemmas.Bool.{cases_lt, cases_eq, cases_Bool, both_ways, lt-ltb, le-ltb, eq-eqb, ne_eqb, and_left, and_right}
use Rattle.bit_block.specs.Bit.{Least}
use Rattle.bitset_interface.specs.Source.{Source, Lawful}
use Rattle.bit_block.specs.Ranges.{count}
use Rattle.packing.specs.Packed.{held, blocks, full}
use Rattle.packing.proofs.Ranges.{never_count, count-some}
use Rattle.bitset_interface.proofs.Rows.{off}
use Rattle.packing.proofs.Held.{held_no, held_under, held_yes, held_past}

-- `got` has what h has below `at`, and nothing from there on
abbrev pub UpTo : (ℕ → Bool) → ℕ → (ℕ → Bool) → Type 0
UpTo h at got = (t : ℕ) → got t ≡ (ltb t at && h t)

pub upto_none : (h got : ℕ → Bool) → ((t : ℕ) → got t ≡ false) → UpTo h 0 got
upto_none h got e t = e t ∙ sym (and_left (ltb t 0) (h t) (le-ltb t 0 (omega arith)))

module _ (m h : ℕ → Bool) (under : (t : ℕ) → m t ≡ false → h t ≡ false) where
  -- between the bits that were found nothing passes
  pub gap : (at found : ℕ) → Least m at (Some found) → (t : ℕ) → at ≤ t → t < found → h t ≡ false
  gap at found l t a b = under t (l.2 t a b)

  -- past the last bit nothing passes
  pub past : (at : ℕ) → Least m at None → (t : ℕ) → at ≤ t → h t ≡ false
  past at l t a = under t (l t a)

  -- what passes below `found` passes below `at`
  pub closed : (at found : ℕ) → Least m at (Some found) → (t : ℕ) → t < found → (ltb t at && h t) ≡ h t
  closed at found l t b =
      ⊎_elim (λ a. ap (λ (x : Bool). x && h t) (lt-ltb t at a))
      (λ a. and_right (ltb t at) (h t) (gap at found l t a b) ∙ sym (gap at found l t a b))
      (cases_lt t at)

  -- at any other place, to have gone on past `found` makes no difference
  pub moved : (at found : ℕ) → Least m at (Some found) → (t : ℕ) → (t ≡ found → ⊥) → (ltb t at && h t) ≡ (ltb t (found + 1) && h t)
  moved at found l t ne =
      ⊎_elim
      (λ b. closed at found l t b ∙ sym (ap (λ (x : Bool). x && h t) (lt-ltb t (found + 1) (omega arith))))
      (λ b. and_left (ltb t at) (h t) (le-ltb t at (omega (arith, l.0))) ∙ sym (and_left (ltb t (found + 1)) (h t) (le-ltb t (found + 1) (omega (arith, ne)))))
      (cases_lt t found)

  -- the bit that was found passes, and is raised
  pub upto_raised : (at found : ℕ) (got new : ℕ → Bool) → found < 256 → Least m at (Some found) → h found ≡ true → UpTo h at got
      → ((t : ℕ) → new t ≡ ((eqb t found && ltb found 256) || got t)) → UpTo h (found + 1) new
  upto_raised at found got new small l on u raises t =
      let r : new t ≡ ((eqb t found && true) || got t) = raises t ∙ ap (λ (x : Bool). (eqb t found && x) || got t) (lt-ltb found 256 small) in
      ⊎_elim
      (λ e.
      r ∙ ap (λ (x : Bool). (x && true) || got t) (eq-eqb t found e)
      ∙ sym (ap₂ (λ (x y : Bool). x && y) (lt-ltb t (found + 1) (omega arith)) (ap h e ∙ on)))
      (λ ne. r ∙ ap (λ (x : Bool). (x && true) || got t) (ne_eqb t found ne) ∙ u t ∙ moved at found l t ne)
      (cases_eq t found)

  -- the bit that was found does not pass
  pub upto_passed : (at found : ℕ) (got : ℕ → Bool) → Least m at (Some found) → h found ≡ false → UpTo h at got → UpTo h (found + 1) got
  upto_passed at found got l empty u t =
      ⊎_elim
      (λ e. u t ∙ and_right (ltb t at) (h t) (ap h e ∙ empty) ∙ sym (and_right (ltb t (found + 1)) (h t) (ap h e ∙ empty)))
      (λ ne. u t ∙ moved at found l t ne)
      (cases_eq t found)

  -- past the last bit it makes no difference how far the walk went
  pub ended : (at : ℕ) → Least m at None → (t : ℕ) → (ltb t at && h t) ≡ h t
  ended at l t =
      ⊎_elim (λ a. ap (λ (x : Bool). x && h t) (lt-ltb t at a))
      (λ a. and_right (ltb t at) (h t) (past at l t a) ∙ sym (past at l t a))
      (cases_lt t at)

  -- no bit is left
  pub upto_all : (at : ℕ) (got : ℕ → Bool) → Least m at None → UpTo h at got → (t : ℕ) → got t ≡ h t
  upto_all at got l u t = u t ∙ ended at l t

-- a trusted source's level-1 mask says which blocks hold something
pub trusted_held : (s : Source) → Lawful s → s.trust ≡ true → (i j : ℕ) → s.up1 i j ≡ held s i j
trusted_held s law t i j =
    ⊎_elim
    (λ up. let w = law.full1 i j t up in up ∙ sym (held_yes s law i j w.0 w.1))
    (λ no. no ∙ sym (held_under s law i j no))
    (cases_Bool (s.up1 i j))

-- a mask that raises what a source's block or row holds, and some bit of it: it holds something
pub held_some : (s : Source) → Lawful s → (i j : ℕ) (f : ℕ → Bool) → ((t : ℕ) → f t ≡ s.up2 i j t) → (t : ℕ) × (f t ≡ true) → held s i j ≡ true
held_some s law i j f is w = held_yes s law i j w.0 (sym (is w.0) ∙ w.1)

pub full_some : (s : Source) → Lawful s → (i : ℕ) (f : ℕ → Bool) → ((t : ℕ) → f t ≡ held s i t) → (t : ℕ) × (f t ≡ true) → full (held s) i ≡ true
unfolding blocks
full_some s law i f is w =
    let up : held s i w.0 ≡ true = sym (is w.0) ∙ w.1 in
    let l : w.0 < 256 = ⊎_elim (λ a. a) (λ a. absurd (both_ways (held s i w.0) (held_past s law i w.0 a) up)) (cases_lt w.0 256) in
    lt-ltb 0 (count (held s i) 256) (count-some (held s i) 256 w.0 l up)

-- it raises no bit: nothing is held
pub held_none : (s : Source) (i j : ℕ) (f : ℕ → Bool) → ((t : ℕ) → f t ≡ s.up2 i j t) → ((t : ℕ) → f t ≡ false) → held s i j ≡ false
held_none s i j f is none = held_no s i j (λ t. sym (is t) ∙ none t)

pub full_none : (s : Source) (i : ℕ) (f : ℕ → Bool) → ((t : ℕ) → f t ≡ held s i t) → ((t : ℕ) → f t ≡ false) → full (held s) i ≡ false
unfolding blocks
full_none s i f is none = ap (ltb 0) (never_count (held s i) 256 (λ t. sym (is t) ∙ none t))

-- under a level-0 bit that is not raised no block holds anything
pub row_off : (s : Source) → Lawful s → (i : ℕ) → s.up0 i ≡ false → (j : ℕ) → held s i j ≡ false
row_off s law i e j = held_under s law i j (off (s.up1 i j) (s.up0 i) (law.under1 i j) e)

pub blocks_off : (s : Source) → Lawful s → (i : ℕ) → s.up0 i ≡ false → blocks (held s) i ≡ 0
unfolding blocks
blocks_off s law i e = never_count (held s i) 256 (row_off s law i e)

pub full_off : (s : Source) → Lawful s → (i : ℕ) → s.up0 i ≡ false → full (held s) i ≡ false
full_off s law i e = ap (ltb 0) (blocks_off s law i e)

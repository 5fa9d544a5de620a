-- Words of a range of positions, bit by bit.
use Rattle.std.proofs.Common.{◌≡◌, ℕ, ◌+◌, ◌-◌, ◌*◌, ◌/◌, ◌%◌, ◌^◌, ◌<◌, ◌≤◌, Bool, true, false, cond, not, ◌&&◌, ◌||◌, ltb, leb, ◌⊎◌, List, length, get_or, set, take, drop, sym, refl, ap, ◌∙◌, ap₂, inl, inr, ⊎_elim, arith, length-set, get_or-set_other, get_or-set_same, pow_pos}
use lib.Bits.{bit_and, bit_or}
use borrow.Rule.Slice.PartMut.{mid_of, put_mid}
use Rattle.std.proofs.lemmas.List.{get_or-take, get_or-drop, get_or-append_right, length-take-le, length-drop}
use Rattle.std.proofs.lemmas.Slice.{take-put_mid_below, take-put_mid, drop-put_mid}
use Rattle.std.proofs.lemmas.Nat.{mod_below, div-add-mod'}
use Rattle.std.proofs.lemmas.Bool.{cases_lt, cases_eq, lt-ltb, le-ltb, le-leb, lt-leb, and_left, and_right, cond-false}
use Rattle.bit_block.specs.Bit.{bit_of}
use Rattle.bit_block.proofs.Bits.{bit_of-or, bit_of-and_not, bit_all, bit_past}
use Rattle.draft.specs.Drafts.{stored, within, Spanned}

-- the bits of 2 ^ n - 1
pub low_ones : (n k : ℕ) → bit_of (2 ^ n - 1) k ≡ ltb k n
low_ones n k =
    ⊎_elim (λ h. bit_all n k h ∙ sym (lt-ltb k n h))
    (λ h. bit_past (2 ^ n - 1) n k (omega (arith, pow_pos n)) h ∙ sym (le-ltb k n h))
    (cases_lt k n)

-- a place that is moved on by m
past_move : (m k to : ℕ) → ltb k (to - m) ≡ ltb (m + k) to
past_move m k to =
    ⊎_elim (λ h. lt-ltb k (to - m) h ∙ sym (lt-ltb (m + k) to (omega arith)))
    (λ h. le-ltb k (to - m) h ∙ sym (le-ltb (m + k) to (omega arith)))
    (cases_lt k (to - m))

from_move : (m k from : ℕ) → not (ltb k (from - m)) ≡ leb from (m + k)
from_move m k from =
    ⊎_elim (λ h. ap not (lt-ltb k (from - m) h) ∙ sym (lt-leb from (m + k) (omega arith)))
    (λ h. ap not (le-ltb k (from - m) h) ∙ sym (le-leb from (m + k) (omega arith)))
    (cases_lt k (from - m))

and_swap : (p q : Bool) → (p && q) ≡ (q && p)
and_swap true true = refl
and_swap true false = refl
and_swap false true = refl
and_swap false false = refl

-- what lies below `to` and not below `from`
pub span_bits : (high low m k from to : ℕ) → low < 2 ^ 64 → k < 64 → bit_of high k ≡ ltb k (to - m) → bit_of low k ≡ ltb k (from - m)
    → bit_of (bit_and high (2 ^ 64 - 1 - low)) k ≡ (leb from (m + k) && ltb (m + k) to)
span_bits high low m k from to f h eh el =
    bit_of-and_not high low k f h
    ∙ ap₂ (λ (p q : Bool). p && q) (eh ∙ past_move m k to) (ap not el ∙ from_move m k from)
    ∙ and_swap (ltb (m + k) to) (leb from (m + k))

or-cond : (p q : Bool) → (p || q) ≡ cond q true p
or-cond true true = refl
or-cond true false = refl
or-cond false true = refl
or-cond false false = refl

drop-cond : (p q : Bool) → (p && not q) ≡ cond q false p
drop-cond true true = refl
drop-cond true false = refl
drop-cond false true = refl
drop-cond false false = refl

-- a part added to a word, or taken from it
pub joined-bits : (word part k : ℕ) (on : Bool) → on ≡ true → bit_of (bit_or word part) k ≡ cond (bit_of part k) on (bit_of word k)
joined-bits word part k on e = bit_of-or word part k ∙ or-cond (bit_of word k) (bit_of part k) ∙ ap (λ (b : Bool). cond (bit_of part k) b (bit_of word k)) (sym e)

pub cut_bits : (word part k : ℕ) (on : Bool) → part < 2 ^ 64 → k < 64 → on ≡ false → bit_of (bit_and word (2 ^ 64 - 1 - part)) k ≡ cond (bit_of part k) on (bit_of word k)
cut_bits word part k on f h e = bit_of-and_not word part k f h ∙ drop-cond (bit_of word k) (bit_of part k) ∙ ap (λ (b : Bool). cond (bit_of part k) b (bit_of word k)) (sym e)

-- how far a part is written whose first word is word `first` of the draft: its words before n are done, the others are as they were
pub record Reached (on : Bool) (from to first n : ℕ) (old new : List ℕ) : Type 0 where
  pub long : length new ≡ length old
  pub left : (q : ℕ) → n ≤ q → get_or new q 0 ≡ get_or old q 0
  pub done : (q k : ℕ) → q < n → k < 64 → bit_of (get_or new q 0) k ≡ cond (within from to ((first + q) * 64 + k)) on (bit_of (get_or old q 0) k)

module _ (on : Bool) (from to first : ℕ) (old : List ℕ) where
  pub reached_none : Reached on from to first 0 old old
  reached_none = record { long = refl; left = λ q _. refl; done = λ q k lt _. absurd (omega arith) }

  -- one word more
  pub reached_more : (n v : ℕ) (new : List ℕ) → n < length new → Reached on from to first n old new
      → ((k : ℕ) → k < 64 → bit_of v k ≡ cond (within from to ((first + n) * 64 + k)) on (bit_of (get_or new n 0) k))
      → Reached on from to first (n + 1) old (set new n v)
  reached_more n v new lt r h = record {
    long = length-set new n v ∙ r.long;
    left = λ q o. get_or-set_other new n q v 0 (λ e. omega arith) ∙ r.left q (omega arith);
    done = λ q k b l. ⊎_elim
        (λ e.
        ap (λ (x : ℕ). bit_of (get_or (set new n v) x 0) k) e
        ∙ ap (λ (x : ℕ). bit_of x k) (get_or-set_same new n v 0 lt)
        ∙ h k l
        ∙ ap (λ (x : ℕ). cond (within from to ((first + n) * 64 + k)) on (bit_of x k)) (r.left n (omega arith))
        ∙ ap (λ (x : ℕ). cond (within from to ((first + x) * 64 + k)) on (bit_of (get_or old x 0) k)) (sym e))
        (λ ne. ap (λ (x : ℕ). bit_of x k) (get_or-set_other new n q v 0 ne) ∙ r.done q k (omega (arith, ne)) l)
        (cases_eq q n);
  }

-- a list with k elements from place a on written anew
module _ (a k : ℕ) (xs ys : List ℕ) (room : a ≤ length xs) (long : length ys ≡ k) where
  mid_before : (q : ℕ) → q < a → get_or (put_mid a k xs ys) q 0 ≡ get_or xs q 0
  mid_before q h =
      sym (get_or-take a (put_mid a k xs ys) q 0 h)
      ∙ ap (λ (l : List ℕ). get_or l q 0) (take-put_mid_below a k xs ys a (omega arith) room)
      ∙ get_or-take a xs q 0 h

  mid_in : (q : ℕ) → a ≤ q → q < a + k → get_or (put_mid a k xs ys) q 0 ≡ get_or ys (q - a) 0
  mid_in q h lt =
      sym (get_or-take (a + length ys) (put_mid a k xs ys) q 0 (omega (arith, long)))
      ∙ ap (λ (l : List ℕ). get_or l q 0) (take-put_mid a k xs ys (a + length ys) refl room)
      ∙ get_or-append_right (take a xs) ys a q 0 (length-take-le a xs room) h

  mid_after : (q : ℕ) → a + k ≤ q → get_or (put_mid a k xs ys) q 0 ≡ get_or xs q 0
  mid_after q h =
      let e : a + k + (q - (a + k)) ≡ q = omega arith in
      ap (λ (x : ℕ). get_or (put_mid a k xs ys) x 0) (sym e)
      ∙ sym (get_or-drop (a + k) (put_mid a k xs ys) (q - (a + k)) 0)
      ∙ ap (λ (l : List ℕ). get_or l (q - (a + k)) 0) (drop-put_mid a k xs ys (a + k) (omega arith) room long)
      ∙ get_or-drop (a + k) xs (q - (a + k)) 0
      ∙ ap (λ (x : ℕ). get_or xs x 0) e

-- a part that holds the words from..to all written: the range is set in the whole, and nothing else
module _ (on : Bool) (from to last : ℕ) (old new : List ℕ) (order : from ≤ to) (low : from / 64 ≤ last) (top : to ≤ last * 64) (tight : last * 64 < to + 64) (room : last ≤ length old)
    (r : Reached on from to (from / 64) (last - from / 64) (mid_of (from / 64) (last - from / 64) old) new) where
  abbrev a : ℕ
  a = from / 64

  abbrev whole : List ℕ
  whole = put_mid a (last - a) old new

  length_new : length new ≡ last - a
  length_new = r.long ∙ length-take-le (last - a) (drop a old) (omega (arith, length-drop a old))

  -- outside from..to nothing is changed
  outside : (p : ℕ) → (p < from) ⊎ (to ≤ p) → within from to p ≡ false
  outside p o = ⊎_elim (λ h. and_left (leb from p) (ltb p to) (lt-leb from p h)) (λ h. and_right (leb from p) (ltb p to) (le-ltb p to h)) o

  before : (q : ℕ) → q < a → get_or whole q 0 ≡ get_or old q 0
  before = mid_before a (last - a) old new (omega arith) length_new

  after : (q : ℕ) → last ≤ q → get_or whole q 0 ≡ get_or old q 0
  after q h = mid_after a (last - a) old new (omega arith) length_new q (omega arith)

  -- bit k of a word of the part
  inside : (q k : ℕ) → a ≤ q → q < last → k < 64 → bit_of (get_or whole q 0) k ≡ cond (within from to (q * 64 + k)) on (bit_of (get_or old q 0) k)
  inside q k h lt l =
      let e : a + (q - a) ≡ q = omega arith in
      ap (λ (x : ℕ). bit_of x k) (mid_in a (last - a) old new (omega arith) length_new q h (omega arith))
      ∙ r.done (q - a) k (omega arith) l
      ∙ ap (λ (x : ℕ). cond (within from to ((a + (q - a)) * 64 + k)) on (bit_of x k)) (get_or-take (last - a) (drop a old) (q - a) 0 (omega arith) ∙ get_or-drop a old (q - a) 0)
      ∙ ap (λ (x : ℕ). cond (within from to (x * 64 + k)) on (bit_of (get_or old x 0) k)) e

  pub reached_all : length whole ≡ length old → Spanned on from to old whole
  unfolding stored
  reached_all long = record {
    long = long;
    bits = λ p.
        let k : p % 64 < 64 = mod_below p 64 (omega arith) in
        let still : (p < from) ⊎ (to ≤ p) → get_or whole (p / 64) 0 ≡ get_or old (p / 64) 0 → bit_of (get_or whole (p / 64) 0) (p % 64) ≡ cond (within from to p) on (bit_of (get_or old (p / 64) 0) (p % 64)) =
        λ o e. ap (λ (x : ℕ). bit_of x (p % 64)) e ∙ sym (cond-false (within from to p) on (bit_of (get_or old (p / 64) 0) (p % 64)) (outside p o)) in
        ⊎_elim
        (λ l. still (inl (omega arith)) (before (p / 64) l))
        (λ l. ⊎_elim
        (λ b. inside (p / 64) (p % 64) l b k ∙ ap (λ (x : ℕ). cond (within from to x) on (bit_of (get_or old (p / 64) 0) (p % 64))) (div-add-mod' p 64))
        (λ b. still (inr (omega (arith, top, b))) (after (p / 64) b))
        (cases_lt (p / 64) last))
        (cases_lt (p / 64) a);
    kept = λ w o. ⊎_elim (λ l. before w (omega (arith, l))) (λ l. after w (omega (arith, l, tight))) o;
  }

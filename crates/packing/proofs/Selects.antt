-- The place of a given rank: among places that pass a test, and among the raised bits of words.
use Rattle.std.proofs.Common.{◌≡◌, ℕ, zero, suc, ◌+◌, ◌-◌, ◌*◌, ◌/◌, ◌%◌, ◌^◌, ◌<◌, ◌≤◌, Bool, true, cond, List, length, get_or, sym, ap, ◌∙◌, ⊎_elim, mod-eq_of_lt, div-one, add-one, arith}
use Rattle.std.proofs.lemmas.Nat.{shr-shr, shr_below, div-add-mod'}
use Rattle.std.proofs.lemmas.Bool.{cases_Bool, cases_lt}
use Rattle.bit_block.specs.Bit.{bit_of}
use Rattle.bit_block.specs.Ranges.{count}
use Rattle.bit_block.proofs.Counting.{count_none, count-suc, count_more, ones_count}
use Rattle.packing.specs.Packed.{before}
use Rattle.packing.proofs.Ranges.{count_grows}
use Rattle.packing.proofs.Starts.{before-none, before_more}
use Rattle.packing.proofs.Words.{number_same, number-bits}

-- a place below n that passes f, with r such places before it
pub record Selected (f : ℕ → Bool) (n r : ℕ) : Type 0 where
  pub place : ℕ
  pub below : place < n
  pub passes : f place ≡ true
  pub ranked : count f place ≡ r

-- each rank below the count has its place
pub select : (f : ℕ → Bool) (n r : ℕ) → r < count f n → Selected f n r
select f zero r h = absurd (omega (arith, count_none f))
select f (suc n) r h =
    let e : count f (suc n) ≡ count f n + cond (f n) 1 0 = count-suc f n in
    ⊎_elim
    (λ l. let s = select f n r l in record { place = s.place; below = omega (arith, s.below); passes = s.passes; ranked = s.ranked })
    (λ l. ⊎_elim
    (λ up. record { place = n; below = omega arith; passes = up; ranked = omega (arith, e, ap {B = ℕ} (λ (b : Bool). cond b 1 0) up) })
    (λ no. absurd (omega (arith, e, ap {B = ℕ} (λ (b : Bool). cond b 1 0) no)))
    (cases_Bool (f n)))
    (cases_lt r (count f n))

-- a place that passes has a rank below the count
pub rank_below : (f : ℕ → Bool) (i n : ℕ) → i < n → f i ≡ true → count f i < count f n
rank_below f i n l e =
    omega (arith, count_more f i, ap {B = ℕ} (λ (b : Bool). cond b 1 0) e, count_grows f (i + 1) n (omega arith))

-- a raised bit of one of the first words, with b raised bits before it
pub record SelectedBit (ws : List ℕ) (len b : ℕ) : Type 0 where
  pub word : ℕ
  pub bit : ℕ
  pub inside : word < len
  pub small : bit < 64
  pub up : bit_of (get_or ws word 0) bit ≡ true
  pub ranked : before ws word + count (bit_of (get_or ws word 0)) bit ≡ b

-- each rank below the number of raised bits has its bit
pub select_bit : (ws : List ℕ) → ((t : ℕ) → get_or ws t 0 < 2 ^ 64) → (len b : ℕ) → len ≤ length ws → b < before ws len → SelectedBit ws len b
select_bit ws fits zero b le h = absurd (omega (arith, before-none ws))
select_bit ws fits (suc len) b le h =
    ⊎_elim
    (λ l. let s = select_bit ws fits len b (omega arith) l in
    record { word = s.word; bit = s.bit; inside = omega (arith, s.inside); small = s.small; up = s.up; ranked = s.ranked })
    (λ l.
    let w : ℕ = get_or ws len 0 in
    let e : before ws (suc len) ≡ before ws (len + 1) = ap (before ws) (sym (add-one len)) in
    let s = select (bit_of w) 64 (b - before ws len) (omega (arith, e, before_more ws len (omega arith), ones_count 64 w (fits len))) in
    record { word = len; bit = s.place; inside = omega arith; small = s.below; up = s.passes; ranked = omega (arith, s.ranked) })
    (cases_lt b (before ws len))

-- words with the same bits are equal
pub same_word : (v w : ℕ) → v < 2 ^ 64 → w < 2 ^ 64 → ((t : ℕ) → t < 64 → bit_of v t ≡ bit_of w t) → v ≡ w
same_word v w hv hw h =
    sym (mod-eq_of_lt hv) ∙ number-bits v 64 ∙ number_same (bit_of v) (bit_of w) 64 h ∙ sym (number-bits w 64) ∙ mod-eq_of_lt hw

-- a word is its four fields put together
pub four_fields : (w : ℕ) → w < 2 ^ 64
    → w ≡ ((w / 2 ^ 48 % 65536 * 65536 + w / 2 ^ 32 % 65536) * 65536 + w / 2 ^ 16 % 65536) * 65536 + w / 2 ^ 0 % 65536
four_fields w h =
    let a : ℕ = w / 2 ^ 16 in
    let b : ℕ = w / 2 ^ 32 in
    let c : ℕ = w / 2 ^ 48 in
    let top : c % 65536 ≡ c = mod-eq_of_lt (shr_below w 16 48 h) in
    let eb : b ≡ a / 2 ^ 16 = sym (shr-shr w 16 16) in
    let ec : c ≡ b / 2 ^ 16 = sym (shr-shr w 32 16) in
    omega (arith, div-one w, top, eb, ec, div-add-mod' w 65536, div-add-mod' a 65536, div-add-mod' b 65536)

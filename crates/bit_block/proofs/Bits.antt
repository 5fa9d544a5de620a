-- Bits of numbers: what `&`, `|`, `^`, `!`, `>>` and `trailing_zeros` do to `bit_of`.
use Rattle.std.proofs.Common.{◌≡◌, ℕ, zero, suc, ◌+◌, ◌-◌, ◌*◌, ◌/◌, ◌%◌, ◌^◌, ◌<◌, ◌≤◌, Bool, true, false, not, ◌&&◌, ◌||◌, eqb, sym, refl, ap, ◌∙◌, subst, mul_assoc, pow-suc, div-one, add-one, one-add, arith, pow_pos, pow_mono, shr-shr}
use native.Mathlib.Nat.{div-eq_of_lt}
use lib.Bits.{bit_and, bit_or, bit_xor, and_shr, or_shr, xor_shr, and_mod, or_mod, xor_mod, and_mask, xor_add_and}
use lib.Pow.{ones_split, ones_lt, high}
use lib.Count.{count_trailing_zeros, under}
use Rattle.std.proofs.lemmas.Nat.{mod_below, shr_below, field_of, div-add-mod'}
use Rattle.std.proofs.lemmas.Bool.{eq-eqb}
use Rattle.bit_block.specs.Bit.{bit_of, exclusive}

small_and : (x y : ℕ) → x < 2 → y < 2 → eqb (bit_and x y) 1 ≡ (eqb x 1 && eqb y 1)
small_and zero zero hx hy = refl
small_and zero (suc zero) hx hy = refl
small_and (suc zero) zero hx hy = refl
small_and (suc zero) (suc zero) hx hy = refl
small_and (suc (suc n)) y hx hy = absurd (omega arith)
small_and zero (suc (suc m)) hx hy = absurd (omega arith)
small_and (suc zero) (suc (suc m)) hx hy = absurd (omega arith)

small_or : (x y : ℕ) → x < 2 → y < 2 → eqb (bit_or x y) 1 ≡ (eqb x 1 || eqb y 1)
small_or zero zero hx hy = refl
small_or zero (suc zero) hx hy = refl
small_or (suc zero) zero hx hy = refl
small_or (suc zero) (suc zero) hx hy = refl
small_or (suc (suc n)) y hx hy = absurd (omega arith)
small_or zero (suc (suc m)) hx hy = absurd (omega arith)
small_or (suc zero) (suc (suc m)) hx hy = absurd (omega arith)

small_xor : (x y : ℕ) → x < 2 → y < 2 → eqb (bit_xor x y) 1 ≡ exclusive (eqb x 1) (eqb y 1)
small_xor zero zero hx hy = refl
small_xor zero (suc zero) hx hy = refl
small_xor (suc zero) zero hx hy = refl
small_xor (suc zero) (suc zero) hx hy = refl
small_xor (suc (suc n)) y hx hy = absurd (omega arith)
small_xor zero (suc (suc m)) hx hy = absurd (omega arith)
small_xor (suc zero) (suc (suc m)) hx hy = absurd (omega arith)

low : (n : ℕ) → n % 2 < 2
low n = mod_below n 2 (omega arith)

-- the low digit of a remainder by an even number
mod_mul_mod : (n m : ℕ) → n % (m * 2) % 2 ≡ n % 2
mod_mul_mod n m =
    let e : (n / (m * 2) * m) * 2 + n % (m * 2) ≡ n = omega (arith, div-add-mod' n (m * 2), mul_assoc (n / (m * 2)) m 2) in
    omega (arith, e)

-- bits of a conjunction, a disjunction and an exclusive one
pub bit_of-and : (a b k : ℕ) → bit_of (bit_and a b) k ≡ (bit_of a k && bit_of b k)
bit_of-and a b k =
    ap (λ (x : ℕ). eqb (x % 2) 1) (and_shr a b k)
    ∙ (ap (λ (x : ℕ). eqb x 1) (and_mod (a / 2 ^ k) (b / 2 ^ k) 1)
    ∙ small_and (a / 2 ^ k % 2) (b / 2 ^ k % 2) (low (a / 2 ^ k)) (low (b / 2 ^ k)))

pub bit_of-or : (a b k : ℕ) → bit_of (bit_or a b) k ≡ (bit_of a k || bit_of b k)
bit_of-or a b k =
    ap (λ (x : ℕ). eqb (x % 2) 1) (or_shr a b k)
    ∙ (ap (λ (x : ℕ). eqb x 1) (or_mod (a / 2 ^ k) (b / 2 ^ k) 1)
    ∙ small_or (a / 2 ^ k % 2) (b / 2 ^ k % 2) (low (a / 2 ^ k)) (low (b / 2 ^ k)))

pub bit_of-xor : (a b k : ℕ) → bit_of (bit_xor a b) k ≡ exclusive (bit_of a k) (bit_of b k)
bit_of-xor a b k =
    ap (λ (x : ℕ). eqb (x % 2) 1) (xor_shr a b k)
    ∙ (ap (λ (x : ℕ). eqb x 1) (xor_mod (a / 2 ^ k) (b / 2 ^ k) 1)
    ∙ small_xor (a / 2 ^ k % 2) (b / 2 ^ k % 2) (low (a / 2 ^ k)) (low (b / 2 ^ k)))

-- the bits of a shifted number
pub bit_of-shr : (n s k : ℕ) → bit_of (n / 2 ^ s) k ≡ bit_of n (s + k)
bit_of-shr n s k = ap (λ (x : ℕ). eqb (x % 2) 1) (shr-shr n s k)

-- the bits below s of a number are those of its remainder
pub bit_mod : (n s k : ℕ) → k < s → bit_of (n % 2 ^ s) k ≡ bit_of n k
bit_mod n s k h =
    let j : ℕ = s - suc k in
    let e : suc j + k ≡ s = omega arith in
    let f : n % 2 ^ s / 2 ^ k ≡ n / 2 ^ k % 2 ^ suc j = ap (λ (x : ℕ). n % 2 ^ x / 2 ^ k) (sym e) ∙ field_of n (suc j) k in
    let p : 2 ^ suc j ≡ 2 ^ j * 2 = pow-suc 2 j in
    let g : n / 2 ^ k % 2 ^ suc j % 2 ≡ n / 2 ^ k % 2 = ap (λ (x : ℕ). n / 2 ^ k % x % 2) p ∙ mod_mul_mod (n / 2 ^ k) (2 ^ j) in
    ap (λ (x : ℕ). eqb (x % 2) 1) f ∙ ap (λ (x : ℕ). eqb x 1) g

-- no bit of a number is raised at or past its length
pub bit_past : (n k j : ℕ) → n < 2 ^ k → k ≤ j → bit_of n j ≡ false
bit_past n k j h le =
    let m : 2 ^ k ≤ 2 ^ j = pow_mono le in
    let z : n / 2 ^ j ≡ 0 = div-eq_of_lt (omega arith) in
    ap (λ (x : ℕ). eqb (x % 2) 1) z

pub bit_zero : (k : ℕ) → bit_of 0 k ≡ false
bit_zero k = bit_past 0 0 k (omega arith) (omega arith)

-- trailing_zeros: a raised bit, and none below
pub record Lowest (n t k : ℕ) : Type 0 where
  pub within : t < k
  pub here : bit_of n t ≡ true
  pub below : (j : ℕ) → j < t → bit_of n j ≡ false

halved : (n k : ℕ) → bit_of (n / 2) k ≡ bit_of n (suc k)
halved n k = bit_of-shr n 1 k ∙ ap (bit_of n) (one-add k)

first_bit : (n : ℕ) → bit_of n 0 ≡ eqb (n % 2) 1
first_bit n = ap (λ (x : ℕ). eqb (x % 2) 1) (div-one n)

lowest_under : (n k d t : ℕ) → n % 2 ≡ d → (d ≡ 0 → Lowest (n / 2) t k) → Lowest n (under d t) (suc k)
lowest_under n k zero t e h =
    let r = h refl in
    record {
      within = omega (arith, r.within);
      here = sym (halved n t) ∙ r.here;
      below = λ j lt. elim j as (λ x. x < suc t → bit_of n x ≡ false) [
        | zero ↦ λ _. first_bit n ∙ ap (λ (x : ℕ). eqb x 1) e
        | suc i ↦ λ l. sym (halved n i) ∙ r.below i (omega (arith, l))
      ] lt;
    }
lowest_under n k (suc zero) t e h =
    record {
      within = omega arith;
      here = first_bit n ∙ ap (λ (x : ℕ). eqb x 1) e;
      below = λ j lt. absurd (omega arith);
    }
lowest_under n k (suc (suc d)) t e h = absurd (omega (arith, low n))

pub lowest : (k n : ℕ) → 0 < n → n < 2 ^ k → Lowest n (count_trailing_zeros k n) k
unfolding count_trailing_zeros
lowest zero n p h = absurd (omega arith)
lowest (suc k) n p h =
    lowest_under n k (n % 2) (count_trailing_zeros k (n / 2)) refl
    (λ e. lowest k (n / 2) (omega arith) (shr_below n k 1 (subst (λ (x : ℕ). n < 2 ^ x) (sym (add-one k)) h)))

-- each bit below n of 2 ^ n - 1 is raised
pub bit_all : (n k : ℕ) → k < n → bit_of (2 ^ n - 1) k ≡ true
bit_all n k h =
    let j : ℕ = n - suc k in
    let e : n ≡ suc j + k = omega arith in
    let s : (2 ^ n - 1) / 2 ^ k ≡ 2 ^ suc j - 1 =
    ap (λ (x : ℕ). (2 ^ x - 1) / 2 ^ k) e
    ∙ (ap (λ (x : ℕ). x / 2 ^ k) (ones_split (suc j) k) ∙ high (2 ^ suc j - 1) k (ones_lt k)) in
    let o : (2 ^ suc j - 1) % 2 ≡ 1 = omega (arith, pow-suc 2 j, pow_pos j) in
    ap (λ (x : ℕ). eqb (x % 2) 1) s ∙ eq-eqb ((2 ^ suc j - 1) % 2) 1 o

pub bit_ones : (k : ℕ) → k < 64 → bit_of (2 ^ 64 - 1) k ≡ true
bit_ones k h = bit_all 64 k h

flips : (x : Bool) → exclusive x true ≡ not x
flips true = refl
flips false = refl

pub bit_not : (b k : ℕ) → b < 2 ^ 64 → k < 64 → bit_of (2 ^ 64 - 1 - b) k ≡ not (bit_of b k)
bit_not b k fits h =
    let e : bit_xor b (2 ^ 64 - 1) ≡ 2 ^ 64 - 1 - b = omega (arith, xor_add_and b (2 ^ 64 - 1), and_mask b 64) in
    ap (λ (x : ℕ). bit_of x k) (sym e) ∙ (bit_of-xor b (2 ^ 64 - 1) k ∙ (ap (exclusive (bit_of b k)) (bit_ones k h) ∙ flips (bit_of b k)))

pub bit_of-and_not : (a b k : ℕ) → b < 2 ^ 64 → k < 64 → bit_of (bit_and a (2 ^ 64 - 1 - b)) k ≡ (bit_of a k && not (bit_of b k))
bit_of-and_not a b k fits h = bit_of-and a (2 ^ 64 - 1 - b) k ∙ ap (λ (x : Bool). bit_of a k && x) (bit_not b k fits h)

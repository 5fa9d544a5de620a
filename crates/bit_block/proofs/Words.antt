-- Masks whose words are given one by one, and one bit written into words.
use Rattle.std.proofs.Common.{◌≡◌, ℕ, zero, suc, ◌+◌, ◌-◌, ◌*◌, ◌/◌, ◌%◌, ◌^◌, ◌<◌, ◌≤◌, Bool, true, false, cond, ◌&&◌, ◌||◌, eqb, ltb, List, [], ◌∷◌, length, get_or, set, min, drop, sym, refl, ap, ◌∙◌, ⊎_elim, add-zero, pow-suc, arith, get_or-set_other, get_or-set_same, pow_pos, pow-add}
use native.Mathlib.Nat.{div_self}
use lib.Bits.{bit_or}
use lib.Pow.{shl-shr}
use Rattle.std.proofs.lemmas.Nat.{mod_below, one_shl}
use Rattle.std.proofs.lemmas.List.{get_or_past, get_or-drop}
use Rattle.std.proofs.Math.Nat.{min-le_right, le-min}
use Rattle.std.proofs.lemmas.Bool.{cases_lt, cases_eq, cases_order, lt-ltb, le-ltb, eq-eqb, ne_eqb, cond-true, cond-false}
use Rattle.bit_block.specs.Bit.{bit_of}
use Rattle.bit_block.specs.Raised.{raised}
use Rattle.bit_block.specs.Widths.{bits}
use Rattle.bit_block.specs.declared.config.Width.{Width}
use Rattle.bit_block.specs.declared.config.Width.TheVariants.{W64, W128, W256}
use Rattle.bit_block.proofs.Bits.{bit_zero, bit_ones, bit_past, bit_of-or}

-- a mask whose first n words are f's, and whose others are 0
module _ (f : ℕ → ℕ) (n : ℕ) (ws : List ℕ) (is : (q : ℕ) → get_or ws q 0 ≡ cond (ltb q n) (f q) 0) where
  pub lanes_bits : (t : ℕ) → raised (record { words = ws }) t ≡ (ltb t (n * 64) && bit_of (f (t / 64)) (t % 64))
  unfolding raised
  lanes_bits t =
      ⊎_elim
      (λ h.
      let q : t / 64 < n = omega arith in
      ap (λ (x : ℕ). bit_of x (t % 64)) (is (t / 64) ∙ cond-true (ltb (t / 64) n) (f (t / 64)) 0 (lt-ltb (t / 64) n q))
      ∙ ap (λ (b : Bool). b && bit_of (f (t / 64)) (t % 64)) (sym (lt-ltb t (n * 64) h)))
      (λ h.
      let q : n ≤ t / 64 = omega arith in
      ap (λ (x : ℕ). bit_of x (t % 64)) (is (t / 64) ∙ cond-false (ltb (t / 64) n) (f (t / 64)) 0 (le-ltb (t / 64) n q))
      ∙ (bit_zero (t % 64) ∙ ap (λ (b : Bool). b && bit_of (f (t / 64)) (t % 64)) (sym (le-ltb t (n * 64) h))))
      (cases_lt t (n * 64))

-- the words that stand from `base` on
abbrev pub from : List ℕ → ℕ → ℕ → ℕ
from xs base q = get_or xs (base + q) 0

-- four words, each as it stands
pub four : (f : ℕ → ℕ) (n a b c d : ℕ) → n ≤ 4 → a ≡ cond (ltb 0 n) (f 0) 0 → b ≡ cond (ltb 1 n) (f 1) 0 → c ≡ cond (ltb 2 n) (f 2) 0 → d ≡ cond (ltb 3 n) (f 3) 0
    → (q : ℕ) → get_or (a ∷ b ∷ c ∷ d ∷ []) q 0 ≡ cond (ltb q n) (f q) 0
four f n a b c d le p q r s zero = p
four f n a b c d le p q r s (suc zero) = q
four f n a b c d le p q r s (suc (suc zero)) = r
four f n a b c d le p q r s (suc (suc (suc zero))) = s
four f n a b c d le p q r s (suc (suc (suc (suc m)))) = sym (cond-false (ltb (suc (suc (suc (suc m)))) n) (f (suc (suc (suc (suc m))))) 0 (le-ltb (suc (suc (suc (suc m)))) n (omega arith)))

module _ (xs : List ℕ) (base : ℕ) (t : ℕ) where
  at_base : get_or xs base 0 ≡ from xs base 0
  at_base = ap (λ (x : ℕ). get_or xs x 0) (sym (add-zero base))

  -- a mask of one, two or four of them
  pub bits1 : raised (record { words = get_or xs base 0 ∷ 0 ∷ 0 ∷ 0 ∷ [] }) t ≡ (ltb t 64 && bit_of (from xs base (t / 64)) (t % 64))
  bits1 = lanes_bits (from xs base) 1 (get_or xs base 0 ∷ 0 ∷ 0 ∷ 0 ∷ []) (four (from xs base) 1 (get_or xs base 0) 0 0 0 (omega arith) at_base refl refl refl) t

  pub bits2 : raised (record { words = get_or xs base 0 ∷ get_or xs (base + 1) 0 ∷ 0 ∷ 0 ∷ [] }) t ≡ (ltb t 128 && bit_of (from xs base (t / 64)) (t % 64))
  bits2 = lanes_bits (from xs base) 2 (get_or xs base 0 ∷ get_or xs (base + 1) 0 ∷ 0 ∷ 0 ∷ []) (four (from xs base) 2 (get_or xs base 0) (get_or xs (base + 1) 0) 0 0 (omega arith) at_base refl refl refl) t

  pub bits4 : raised (record { words = get_or xs base 0 ∷ get_or xs (base + 1) 0 ∷ get_or xs (base + 2) 0 ∷ get_or xs (base + 3) 0 ∷ [] }) t ≡ (ltb t 256 && bit_of (from xs base (t / 64)) (t % 64))
  bits4 = lanes_bits (from xs base) 4 (get_or xs base 0 ∷ get_or xs (base + 1) 0 ∷ get_or xs (base + 2) 0 ∷ get_or xs (base + 3) 0 ∷ []) (four (from xs base) 4 (get_or xs base 0) (get_or xs (base + 1) 0) (get_or xs (base + 2) 0) (get_or xs (base + 3) 0) (omega arith) at_base refl refl refl) t

-- a word of what stands from `at` on, by its place in the whole
pub dropped : (xs : List ℕ) (at k t : ℕ) → (ltb t k && bit_of (from (drop at xs) 0 (t / 64)) (t % 64)) ≡ (ltb t k && bit_of (get_or xs (at + t / 64) 0) (t % 64))
dropped xs at k t =
    let zero-first : 0 + t / 64 ≡ t / 64 = omega arith in
    ap (λ (x : ℕ). ltb t k && bit_of x (t % 64)) (ap (λ (q : ℕ). get_or (drop at xs) q 0) zero-first ∙ get_or-drop at xs (t / 64) 0)

same-and : (p q : Bool) → q ≡ true → (p && q) ≡ p
same-and true q e = e
same-and false q e = refl

-- n words of ones raise every bit below n * 64
pub full-bits : (n : ℕ) (r : List ℕ) → n ≤ 4 → length r ≡ 4 → ((q : ℕ) → q < 4 → get_or r q 0 ≡ cond (ltb q n) (2 ^ 64 - 1) 0)
    → (t : ℕ) → raised (record { words = r }) t ≡ ltb t (n * 64)
full-bits n r le l is t =
    lanes_bits (λ _. 2 ^ 64 - 1) n r (λ q. ⊎_elim (is q)
    (λ ge. get_or_past r q 0 (omega (arith, l)) ∙ sym (cond-false (ltb q n) (2 ^ 64 - 1) 0 (le-ltb q n (omega arith)))) (cases_lt q 4)) t
    ∙ same-and (ltb t (n * 64)) (bit_of (2 ^ 64 - 1) (t % 64)) (bit_ones (t % 64) (mod_below t 64 (omega arith)))

-- the one raised bit of a power of two
pub bit_pow : (s k : ℕ) → bit_of (2 ^ s) k ≡ eqb k s
bit_pow s k =
    ⊎_elim
    (λ e. ap (λ (x : ℕ). bit_of (2 ^ x) k) (sym e) ∙ (ap (λ (x : ℕ). eqb (x % 2) 1) (div_self (pow_pos k)) ∙ sym (eq-eqb k s e)))
    (λ o. ⊎_elim
    (λ lt.
    let m : ℕ = s - suc k in
    let e : suc m + k ≡ s = omega arith in
    let q : 2 ^ s / 2 ^ k ≡ 2 ^ suc m = ap (λ (x : ℕ). 2 ^ x / 2 ^ k) (sym e) ∙ (ap (λ (x : ℕ). x / 2 ^ k) (pow-add 2 (suc m) k) ∙ shl-shr (2 ^ suc m) k) in
    let z : 2 ^ suc m % 2 ≡ 0 = omega (arith, pow-suc 2 m) in
    ap (λ (x : ℕ). eqb (x % 2) 1) q ∙ (ap (λ (x : ℕ). eqb x 1) z ∙ sym (ne_eqb k s (λ h. omega arith))))
    (λ gt. bit_past (2 ^ s) (suc s) k (omega (arith, pow-suc 2 s, pow_pos s)) gt ∙ sym (ne_eqb k s (λ h. omega arith)))
    o)
    (cases_order k s)

same_eqb : (a b c d : ℕ) → (a ≡ b → c ≡ d) → (c ≡ d → a ≡ b) → eqb a b ≡ eqb c d
same_eqb a b c d f g =
    ⊎_elim (λ e. eq-eqb a b e ∙ sym (eq-eqb c d (f e))) (λ n. ne_eqb a b n ∙ sym (ne_eqb c d (λ h. n (g h)))) (cases_eq a b)

or_swap : (p q : Bool) → (p || q) ≡ (q || p)
or_swap true true = refl
or_swap true false = refl
or_swap false true = refl
or_swap false false = refl

-- bit t raised in a list of words: it alone is added
pub raised-one : (xs : List ℕ) (t u : ℕ) → t / 64 < length xs
    → bit_of (get_or (set xs (t / 64) (bit_or (get_or xs (t / 64) 0) (1 * 2 ^ (t % 64) % 2 ^ 64))) (u / 64) 0) (u % 64) ≡ (eqb u t || bit_of (get_or xs (u / 64) 0) (u % 64))
raised-one xs t u h =
    let v : ℕ = bit_or (get_or xs (t / 64) 0) (1 * 2 ^ (t % 64) % 2 ^ 64) in
    let p : 1 * 2 ^ (t % 64) % 2 ^ 64 ≡ 2 ^ (t % 64) = one_shl (t % 64) 64 (omega arith) in
    ⊎_elim
    (λ e.
    ap (λ (q : ℕ). bit_of (get_or (set xs (t / 64) v) q 0) (u % 64)) e
    ∙ (ap (λ (x : ℕ). bit_of x (u % 64)) (get_or-set_same xs (t / 64) v 0 h)
    ∙ (bit_of-or (get_or xs (t / 64) 0) (1 * 2 ^ (t % 64) % 2 ^ 64) (u % 64)
    ∙ (ap (λ (x : ℕ). bit_of (get_or xs (t / 64) 0) (u % 64) || bit_of x (u % 64)) p
    ∙ (ap (λ (b : Bool). bit_of (get_or xs (t / 64) 0) (u % 64) || b) (bit_pow (t % 64) (u % 64) ∙ same_eqb (u % 64) (t % 64) u t (λ k. omega arith) (λ k. ap (λ (x : ℕ). x % 64) k))
    ∙ (or_swap (bit_of (get_or xs (t / 64) 0) (u % 64)) (eqb u t)
    ∙ ap (λ (q : ℕ). eqb u t || bit_of (get_or xs q 0) (u % 64)) (sym e)))))))
    (λ n.
    ap (λ (x : ℕ). bit_of x (u % 64)) (get_or-set_other xs (t / 64) (u / 64) v 0 n)
    ∙ ap (λ (b : Bool). b || bit_of (get_or xs (u / 64) 0) (u % 64)) (sym (ne_eqb u t (λ k. n (ap (λ (x : ℕ). x / 64) k)))))
    (cases_eq (u / 64) (t / 64))

cond_same : (b : Bool) (x : ℕ) → cond b x x ≡ x
cond_same true x = refl
cond_same false x = refl

-- past its end a list gives 0, so cutting it there changes nothing
cut : (ys : List ℕ) (k q : ℕ) → cond (ltb q (min (length ys) k)) (get_or ys q 0) 0 ≡ cond (ltb q k) (get_or ys q 0) 0
cut ys k q =
    let v : ℕ = get_or ys q 0 in
    ⊎_elim
    (λ lt. ap (λ (b : Bool). cond b v 0) (lt-ltb q (min (length ys) k) lt ∙ sym (lt-ltb q k (omega (arith, lt, min-le_right (length ys) k)))))
    (λ ge. cond-false (ltb q (min (length ys) k)) v 0 (le-ltb q (min (length ys) k) ge)
    ∙ ⊎_elim
    (λ here. let past : length ys ≤ q = ⊎_elim (λ l. absurd (let m = le-min {k = suc q} {a = length ys} {b = k} l here in omega (arith, m, ge))) (λ g. g) (cases_lt q (length ys)) in
    sym (ap (λ (x : ℕ). cond (ltb q k) x 0) (get_or_past ys q 0 past) ∙ cond_same (ltb q k) 0))
    (λ there. sym (cond-false (ltb q k) v 0 (le-ltb q k there)))
    (cases_lt q k))
    (cases_lt q (min (length ys) k))

-- a mask whose words are the first k of those that stand from place `at` on; a word past the end is 0
pub bits_from : (xs : List ℕ) (at k : ℕ) (r : List ℕ) → length r ≡ 4 → k ≤ 4
    → ((q : ℕ) → q < 4 → get_or r q 0 ≡ cond (ltb q (min (length (drop at xs)) k)) (get_or (drop at xs) q 0) 0)
    → (t : ℕ) → raised (record { words = r }) t ≡ (ltb t (k * 64) && bit_of (get_or xs (at + t / 64) 0) (t % 64))
bits_from xs at k r l le is = lanes_bits (from xs at) k r (λ q.
    ⊎_elim
    (λ lt. is q lt ∙ (cut (drop at xs) k q ∙ ap (λ (x : ℕ). cond (ltb q k) x 0) (get_or-drop at xs q 0)))
    (λ ge. get_or_past r q 0 (omega (arith, l)) ∙ sym (cond-false (ltb q k) (get_or xs (at + q) 0) 0 (le-ltb q k (omega arith))))
    (cases_lt q 4))

-- a width is a whole number of words, four at most
pub whole : (x : Width) → (bits x ≡ bits x / 64 * 64) × (bits x / 64 ≤ 4)
whole W64 = (refl, omega arith)
whole W128 = (refl, omega arith)
whole W256 = (refl, omega arith)

-- Laws of sums and counts over the numbers below n.
use Rattle.std.proofs.Common.{◌≡◌, ℕ, zero, suc, ◌+◌, ◌-◌, ◌/◌, ◌%◌, ◌^◌, ◌<◌, ◌≤◌, Bool, true, false, cond, eqb, sym, refl, ap, ◌∙◌, subst, ap₂, div-one, add-one, one-add, arith}
use lib.Count.{ones, ones_step, ones-le}
use Rattle.std.proofs.lemmas.Nat.{mod_below, shr_below, pow_pos}
use Rattle.bit_block.specs.Bit.{bit_of}
use Rattle.bit_block.specs.Ranges.{total, count}
use Rattle.bit_block.proofs.Bits.{bit_of-shr, bit_mod}

pub total-none : (f : ℕ → ℕ) → total f 0 ≡ 0
unfolding total
total-none f = refl

pub total-suc : (f : ℕ → ℕ) (n : ℕ) → total f (suc n) ≡ total f n + f n
unfolding total
total-suc f n = refl

-- sums of equal numbers are equal
pub total-same : (f g : ℕ → ℕ) (n : ℕ) → ((t : ℕ) → t < n → f t ≡ g t) → total f n ≡ total g n
total-same f g zero h = total-none f ∙ sym (total-none g)
total-same f g (suc n) h = total-suc f n ∙ ap₂ ◌+◌ (total-same f g n (λ t l. h t (omega arith))) (h n (omega arith)) ∙ sym (total-suc g n)

pub count_none : (f : ℕ → Bool) → count f 0 ≡ 0
unfolding count total
count_none f = refl

pub count-suc : (f : ℕ → Bool) (n : ℕ) → count f (suc n) ≡ count f n + cond (f n) 1 0
unfolding count
count-suc f n = total-suc (λ t. cond (f t) 1 0) n

-- one more place
pub count_more : (f : ℕ → Bool) (n : ℕ) → count f (n + 1) ≡ count f n + cond (f n) 1 0
count_more f n = ap (count f) (add-one n) ∙ count-suc f n

bit_le : (b : Bool) → cond b 1 0 ≤ 1
bit_le true = omega arith
bit_le false = omega arith

-- no more places pass than there are
pub count_le : (f : ℕ → Bool) (n : ℕ) → count f n ≤ n
count_le f zero = omega (arith, count_none f)
count_le f (suc n) = omega (arith, count-suc f n, count_le f n, bit_le (f n))

-- equal tests count alike
pub count_same : (f g : ℕ → Bool) (n : ℕ) → ((t : ℕ) → t < n → f t ≡ g t) → count f n ≡ count g n
unfolding count
count_same f g n h = total-same (λ t. cond (f t) 1 0) (λ t. cond (g t) 1 0) n (λ t l. ap {B = ℕ} (λ (b : Bool). cond b 1 0) (h t l))

-- a count goes on from a
pub count_add : (f : ℕ → Bool) (a b : ℕ) → count f (a + b) ≡ count f a + count (λ t. f (a + t)) b
count_add f a zero = omega (arith, ap (count f) (let e : a + 0 ≡ a = omega arith in e), count_none (λ t. f (a + t)))
count_add f a (suc b) =
    let e : count f (a + suc b) ≡ count f (suc (a + b)) = ap (count f) (let d : a + suc b ≡ suc (a + b) = omega arith in d) in
    omega (arith, e, count-suc f (a + b), count_add f a b, count-suc (λ t. f (a + t)) b)

-- places at which nothing passes count 0
pub count-zero : (f : ℕ → Bool) (n : ℕ) → ((t : ℕ) → t < n → f t ≡ false) → count f n ≡ 0
count-zero f zero h = count_none f
count-zero f (suc n) h = omega (arith, count-suc f n, count-zero f n (λ t l. h t (omega arith)), ap {B = ℕ} (λ (b : Bool). cond b 1 0) (h n (omega arith)))

-- places at which all passes count as many as they are
pub count_all : (f : ℕ → Bool) (n : ℕ) → ((t : ℕ) → t < n → f t ≡ true) → count f n ≡ n
count_all f zero h = count_none f
count_all f (suc n) h = omega (arith, count-suc f n, count_all f n (λ t l. h t (omega arith)), ap {B = ℕ} (λ (b : Bool). cond b 1 0) (h n (omega arith)))

-- nothing passes from a on: the count stays
pub count_past : (f : ℕ → Bool) (a n : ℕ) → a ≤ n → ((t : ℕ) → a ≤ t → f t ≡ false) → count f n ≡ count f a
count_past f a n le h =
    let e : a + (n - a) ≡ n = omega arith in
    omega (arith, ap (count f) e, count_add f a (n - a), count-zero (λ t. f (a + t)) (n - a) (λ t _. h (a + t) (omega arith)))

one : (x : ℕ) → x < 2 → x ≡ cond (eqb x 1) 1 0
one zero h = refl
one (suc zero) h = refl
one (suc (suc n)) h = absurd (omega arith)

-- what `count_ones` counts: the raised bits of a number
pub ones_count : (k n : ℕ) → n < 2 ^ k → ones n ≡ count (bit_of n) k
ones_count zero n h = omega (arith, ones-le 0 n h, count_none (bit_of n))
ones_count (suc k) n h =
    let low : n % 2 ≡ cond (bit_of n 0) 1 0 = one (n % 2) (mod_below n 2 (omega arith)) ∙ ap (λ (x : ℕ). cond (eqb (x % 2) 1) 1 0) (sym (div-one n)) in
    let rest : ones (n / 2) ≡ count (bit_of (n / 2)) k = ones_count k (n / 2) (shr_below n k 1 (subst (λ (x : ℕ). n < 2 ^ x) (sym (add-one k)) h)) in
    let same : count (bit_of (n / 2)) k ≡ count (λ t. bit_of n (1 + t)) k = count_same (bit_of (n / 2)) (λ t. bit_of n (1 + t)) k (λ t _. bit_of-shr n 1 t) in
    let first : count (bit_of n) 1 ≡ cond (bit_of n 0) 1 0 = omega (arith, count-suc (bit_of n) 0, count_none (bit_of n)) in
    let all : count (bit_of n) (1 + k) ≡ count (bit_of n) (suc k) = ap (count (bit_of n)) (one-add k) in
    omega (arith, ones_step n, low, rest, same, first, all, count_add (bit_of n) 1 k)

-- the raised bits below bit r
pub ones_low : (n r : ℕ) → ones (n % 2 ^ r) ≡ count (bit_of n) r
ones_low n r =
    ones_count r (n % 2 ^ r) (mod_below n (2 ^ r) (pow_pos r))
    ∙ count_same (bit_of (n % 2 ^ r)) (bit_of n) r (λ t l. bit_mod n r t l)

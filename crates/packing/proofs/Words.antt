-- The words of a mask are those of its bits.
use Rattle.std.proofs.Common.{◌≡◌, ℕ, zero, suc, ◌+◌, ◌*◌, ◌/◌, ◌%◌, ◌^◌, ◌<◌, ◌≤◌, Bool, cond, eqb, List, [], ◌∷◌, ◌++◌, length, get_or, take, sym, refl, ap, ◌∙◌, ap₂, mod-eq_of_lt, add-mul, add-one, one-add, arith}
use native.Mathlib.Nat.{mod-one}
use Rattle.std.proofs.lemmas.Nat.{mod-pow-add, mod_below}
use Rattle.std.proofs.lemmas.List.{length-append, take_more}
use Rattle.bit_block.specs.Bit.{bit_of}
use Rattle.bit_block.specs.Raised.{raised}
use Rattle.bit_block.specs.declared.mask.Mask.{Mask}
use Rattle.bit_block.proofs.Masks.{raised_at}
use Rattle.bit_block.specs.Ranges.{total}
use Rattle.packing.specs.Gathered.{gather, number, words_of}
use Rattle.bit_block.proofs.Counting.{total-none, total-suc}
use Rattle.packing.proofs.Ranges.{gather_none, gather_more, gather-suc}

pub number_same : (f g : ℕ → Bool) (k : ℕ) → ((t : ℕ) → t < k → f t ≡ g t) → number f k ≡ number g k
unfolding number
number_same f g zero h = refl
number_same f g (suc k) h = ap₂ ◌+◌ (number_same f g k (λ t l. h t (omega arith))) (ap (λ (b : Bool). cond b (2 ^ k) 0) (h k (omega arith)))

digit : (x p : ℕ) → x < 2 → x * p ≡ cond (eqb x 1) p 0
digit zero p h = omega arith
digit (suc zero) p h = omega arith
digit (suc (suc n)) p h = absurd (omega arith)

pub number-bits : (n k : ℕ) → n % 2 ^ k ≡ number (bit_of n) k
unfolding number
number-bits n zero = mod-one n
number-bits n (suc k) =
    ap (λ (x : ℕ). n % 2 ^ x) (sym (one-add k))
    ∙ mod-pow-add n 1 k
    ∙ ap₂ ◌+◌ (digit (n / 2 ^ k % 2) (2 ^ k) (mod_below (n / 2 ^ k) 2 (omega arith))) (number-bits n k)
    ∙ (let P : ℕ = cond (bit_of n k) (2 ^ k) 0 in let Q : ℕ = number (bit_of n) k in let e : P + Q ≡ Q + P = omega arith in e)

-- word q of a mask
pub word_of : (m : Mask) (q : ℕ) → get_or m.words q 0 < 2 ^ 64 → number (λ t. raised m (q * 64 + t)) 64 ≡ get_or m.words q 0
word_of m q fits =
    number_same (λ t. raised m (q * 64 + t)) (bit_of (get_or m.words q 0)) 64 (λ t l. raised_at m q t l)
    ∙ sym (number-bits (get_or m.words q 0) 64) ∙ mod-eq_of_lt fits

pub words-none : (f : ℕ → Bool) → words_of 0 f ≡ []
unfolding words_of
words-none f = gather_none (λ q. number (λ t. f (q * 64 + t)) 64 ∷ [])

pub words_more : (f : ℕ → Bool) (k : ℕ) → words_of (k + 1) f ≡ words_of k f ++ number (λ t. f (k * 64 + t)) 64 ∷ []
unfolding words_of
words_more f k = gather_more (λ q. number (λ t. f (q * 64 + t)) 64 ∷ []) k

-- what is gathered from parts whose lengths are multiples of k
pub length-gather : {X : Type 0} (g : ℕ → List X) (f : ℕ → ℕ) (k n : ℕ) → ((t : ℕ) → length (g t) ≡ f t * k) → length (gather g n) ≡ total f n * k
length-gather g f k zero h = ap length (gather_none g) ∙ sym (ap (λ (x : ℕ). x * k) (total-none f) ∙ (let e : 0 * k ≡ 0 = omega arith in e))
length-gather g f k (suc n) h =
    ap length (gather-suc g n) ∙ length-append (gather g n) (g n)
    ∙ omega (arith, length-gather g f k n h, h n, ap (λ (x : ℕ). x * k) (total-suc f n), add-mul (total f n) (f n) k)

pub length-words : (k : ℕ) (f : ℕ → Bool) → length (words_of k f) ≡ k
length-words zero f = ap length (words-none f)
length-words (suc k) f =
    ap (λ (x : ℕ). length (words_of x f)) (sym (add-one k)) ∙ ap length (words_more f k)
    ∙ length-append (words_of k f) (number (λ t. f (k * 64 + t)) 64 ∷ []) ∙ omega (arith, length-words k f)

-- the first words of a mask are the words of its bits
pub words_of_mask : (m : Mask) → ((t : ℕ) → get_or m.words t 0 < 2 ^ 64) → (k : ℕ) → k ≤ length m.words → take k m.words ≡ words_of k (raised m)
words_of_mask m fits zero h = sym (words-none (raised m))
words_of_mask m fits (suc k) h =
    ap (λ (x : ℕ). take x m.words) (sym (add-one k))
    ∙ take_more m.words k 0 (omega arith)
    ∙ ap₂ (λ (xs : List ℕ) (w : ℕ). xs ++ w ∷ []) (words_of_mask m fits k (omega arith)) (sym (word_of m k (fits k)))
    ∙ sym (words_more (raised m) k)
    ∙ ap (λ (x : ℕ). words_of x (raised m)) (add-one k)

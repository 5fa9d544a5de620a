-- The number that bits make: its bits, its ones.
use Rattle.std.proofs.Common.{◌≡◌, ℕ, zero, suc, ◌+◌, ◌*◌, ◌^◌, ◌<◌, ◌≤◌, Bool, true, false, cond, List, [], ◌∷◌, length, get_or, take, sum_by, sym, refl, ap, ◌∙◌, ap₂, ⊎_elim, mod-eq_of_lt, pow-suc, add-one, arith}
use lib.Count.{ones, ones_cat}
use Rattle.std.proofs.lemmas.List.Sums.{sum_by_push}
use Rattle.std.proofs.lemmas.List.{append-nil}
use Rattle.std.proofs.lemmas.Bool.{cases_eq}
use Rattle.bit_block.specs.Bit.{bit_of}
use Rattle.bit_block.specs.Ranges.{count}
use Rattle.packing.specs.Gathered.{gather, number, words_of}
use Rattle.bit_block.proofs.Counting.{count_none, count-suc, count_add}
use Rattle.packing.proofs.Words.{number-bits, words-none, words_more, length-words}
use Rattle.packing.proofs.Gathers.{gather_at, gather_take}

pub number-none : (f : ℕ → Bool) → number f 0 ≡ 0
unfolding number
number-none f = refl

pub number-suc : (f : ℕ → Bool) (k : ℕ) → number f (suc k) ≡ number f k + cond (f k) (2 ^ k) 0
unfolding number
number-suc f k = refl

top_le : (b : Bool) (p : ℕ) → cond b p 0 ≤ p
top_le true p = omega arith
top_le false p = omega arith

pub number_lt : (f : ℕ → Bool) (k : ℕ) → number f k < 2 ^ k
number_lt f zero = omega (arith, number-none f)
number_lt f (suc k) = omega (arith, number-suc f k, number_lt f k, top_le (f k) (2 ^ k), pow-suc 2 k)

parts : (b d : Bool) (x y p : ℕ) → x < p → y < p → x + cond b p 0 ≡ y + cond d p 0 → (x ≡ y) × (b ≡ d)
parts true true x y p hx hy e = (omega arith, refl)
parts false false x y p hx hy e = (omega arith, refl)
parts true false x y p hx hy e = absurd (omega arith)
parts false true x y p hx hy e = absurd (omega arith)

-- equal numbers have equal bits
pub number-same-bits : (f g : ℕ → Bool) (k : ℕ) → number f k ≡ number g k → (t : ℕ) → t < k → f t ≡ g t
number-same-bits f g zero e t l = absurd (omega arith)
number-same-bits f g (suc k) e t l =
    let r = parts (f k) (g k) (number f k) (number g k) (2 ^ k) (number_lt f k) (number_lt g k) (sym (number-suc f k) ∙ e ∙ number-suc g k) in
    ⊎_elim (λ q. ap f q ∙ r.1 ∙ ap g (sym q)) (λ ne. number-same-bits f g k r.0 t (omega arith)) (cases_eq t k)

pub number_bit : (f : ℕ → Bool) (k t : ℕ) → t < k → bit_of (number f k) t ≡ f t
number_bit f k t l =
    sym (number-same-bits f (bit_of (number f k)) k (sym (mod-eq_of_lt (number_lt f k)) ∙ number-bits (number f k) k) t l)

ones_bit : (b : Bool) (p x : ℕ) → ones (x + cond b p 0) ≡ ones (cond b 1 0 * p + x)
ones_bit true p x = ap ones (omega arith)
ones_bit false p x = ap ones (omega arith)

ones_flag : (b : Bool) → ones (cond b 1 0) ≡ cond b 1 0
unfolding ones
ones_flag true = refl
ones_flag false = refl

pub ones_number : (f : ℕ → Bool) (k : ℕ) → ones (number f k) ≡ count f k
ones_number f zero = ap ones (number-none f) ∙ ones_flag false ∙ sym (count_none f)
ones_number f (suc k) =
    ap ones (number-suc f k) ∙ ones_bit (f k) (2 ^ k) (number f k) ∙ ones_cat k (cond (f k) 1 0) (number f k) (number_lt f k)
    ∙ omega (arith, ones_flag (f k), ones_number f k, count-suc f k)

-- word q of the words of f
abbrev pub word_at : (ℕ → Bool) → ℕ → ℕ
word_at f q = number (λ t. f (q * 64 + t)) 64

take_words : (f : ℕ → Bool) (k q : ℕ) → q < k → take q (words_of k f) ≡ words_of q f
unfolding words_of
take_words f k q h =
    let g : ℕ → List ℕ = λ x. word_at f x ∷ [] in
    let n : length (gather g q) ≡ q = length-words q f in
    let e : length (gather g q) + 0 ≡ q = omega (arith, n) in
    ap (λ (x : ℕ). take x (gather g k)) (sym e) ∙ gather_take g k q 0 h (omega arith) ∙ append-nil (gather g q)

pub get_or-words_of : (f : ℕ → Bool) (k q : ℕ) → q < k → get_or (words_of k f) q 0 ≡ word_at f q
unfolding words_of
get_or-words_of f k q h =
    let g : ℕ → List ℕ = λ x. word_at f x ∷ [] in
    let n : length (gather g q) ≡ q = length-words q f in
    let e : length (gather g q) + 0 ≡ q = omega (arith, n) in
    ap (λ (x : ℕ). get_or (gather g k) x 0) (sym e) ∙ gather_at g k q 0 h (omega arith)

pub ones_words : (f : ℕ → Bool) (k : ℕ) → sum_by ones (words_of k f) ≡ count f (k * 64)
ones_words f zero = ap (sum_by ones) (words-none f) ∙ sym (count_none f)
ones_words f (suc k) =
    ap (λ (x : ℕ). sum_by ones (words_of x f)) (sym (add-one k)) ∙ ap (sum_by ones) (words_more f k) ∙ sum_by_push ones (words_of k f) (word_at f k)
    ∙ ap₂ ◌+◌ (ones_words f k) (ones_number (λ t. f (k * 64 + t)) 64) ∙ sym (count_add f (k * 64) 64)
    ∙ ap (count f) (let e : k * 64 + 64 ≡ suc k * 64 = omega arith in e)

pub ones_take_words : (f : ℕ → Bool) (k q : ℕ) → q < k → sum_by ones (take q (words_of k f)) ≡ count f (q * 64)
ones_take_words f k q h = ap (sum_by ones) (take_words f k q h) ∙ ones_words f q

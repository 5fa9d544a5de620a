-- How long the parts of a packed source are, and that they fit.
use Rattle.std.proofs.Common.{◌≡◌, ℕ, zero, suc, ◌+◌, ◌*◌, ◌<◌, ◌≤◌, Bool, true, false, cond, List, [], ◌∷◌, length, ap, ◌∙◌, mul-le-mul_right, add-mul, arith}
use Rattle.std.proofs.lemmas.List.{length-append}
use Rattle.bitset_interface.specs.Source.{Source}
use Rattle.bit_block.specs.Ranges.{total, count}
use Rattle.packing.specs.Gathered.{gather, words_of}
use Rattle.packing.specs.Packed.{held, blocks, full, level1_to, data_row_to, data_row, data_to}
use Rattle.bit_block.proofs.Counting.{count_more}
use Rattle.packing.proofs.Ranges.{gather_none, gather-suc, count_grows, total_grows, total_more}
use Rattle.packing.proofs.Words.{length-gather, length-words}

length_if : (b : Bool) (xs : List ℕ) (k : ℕ) → length xs ≡ k → length (cond b xs []) ≡ cond b 1 0 * k
length_if true xs k e = omega (arith, e)
length_if false xs k e = omega arith

-- k for each number that passes
length_some : (f : ℕ → Bool) (g : ℕ → List ℕ) (k n : ℕ) → ((t : ℕ) → length (g t) ≡ k) → length (gather (λ t. cond (f t) (g t) []) n) ≡ count f n * k
unfolding count
length_some f g k n h = length-gather (λ t. cond (f t) (g t) []) (λ t. cond (f t) 1 0) k n (λ t. length_if (f t) (g t) k (h t))

pub length-level1 : (k : ℕ) (h : ℕ → ℕ → Bool) (n : ℕ) → length (level1_to k h n) ≡ count (full h) n * k
length-level1 k h n = length_some (full h) (λ i. words_of k (h i)) k n (λ i. length-words k (h i))

pub length-data_row : (k : ℕ) (s : Source) (i n : ℕ) → length (data_row_to k s i n) ≡ count (held s i) n * k
length-data_row k s i n = length_some (held s i) (λ j. words_of k (s.up2 i j)) k n (λ j. length-words k (s.up2 i j))

pub length_data : (k : ℕ) (s : Source) (n : ℕ) → length (data_to k s n) ≡ total (blocks (held s)) n * k
unfolding blocks
length_data k s n = length-gather (data_row k s) (blocks (held s)) k n (λ i. length-data_row k s i 256)

one_of : (b : Bool) (k : ℕ) → cond b k 0 ≡ cond b 1 0 * k
one_of true k = omega arith
one_of false k = omega arith

-- room for one more part
pub room : (f : ℕ → Bool) (k i a at len : ℕ) → at ≡ a + count f i * k → a + count f 256 * k ≤ len → i < 256 → at + cond (f i) k 0 ≤ len
room f k i a at len e h l =
    let m : count f (i + 1) * k ≤ count f 256 * k = mul-le-mul_right k (count_grows f (i + 1) 256 (omega arith)) in
    let d : count f (i + 1) * k ≡ count f i * k + cond (f i) 1 0 * k = ap (λ (x : ℕ). x * k) (count_more f i) ∙ add-mul (count f i) (cond (f i) 1 0) k in
    omega (arith, m, d, one_of (f i) k)

pub room_total : (f : ℕ → ℕ) (k i a at len : ℕ) → at ≡ a + total f i * k → a + total f 256 * k ≤ len → i < 256 → at + f i * k ≤ len
room_total f k i a at len e h l =
    let m : total f (i + 1) * k ≤ total f 256 * k = mul-le-mul_right k (total_grows f (i + 1) 256 (omega arith)) in
    let d : total f (i + 1) * k ≡ total f i * k + f i * k = ap (λ (x : ℕ). x * k) (total_more f i) ∙ add-mul (total f i) (f i) k in
    omega (arith, m, d)

pub length_singles : (g : ℕ → ℕ) (n : ℕ) → length (gather (λ q. g q ∷ []) n) ≡ n
length_singles g zero = ap length (gather_none (λ q. g q ∷ []))
length_singles g (suc n) =
    ap length (gather-suc (λ q. g q ∷ []) n) ∙ length-append (gather (λ q. g q ∷ []) n) (g n ∷ []) ∙ omega (arith, length_singles g n)

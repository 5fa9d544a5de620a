-- Packed words mean what the source means.
use Rattle.std.proofs.Common.{◌≡◌, ℕ, ◌+◌, ◌-◌, ◌*◌, ◌/◌, ◌%◌, ◌<◌, ◌≤◌, Bool, true, false, cond, ◌&&◌, ltb, List, [], ◌∷◌, ◌++◌, length, get_or, take, sum_by, sym, refl, ap, ◌∙◌, ap₂, ⊎_elim, add-mul, arith}
use lib.Count.{ones}
use Rattle.std.proofs.lemmas.List.Sums.{sum_by-append}
use Rattle.std.proofs.lemmas.Nat.{mod_below, div-add-mod'}
use Rattle.std.proofs.lemmas.List.{length-append, take_all, take-take, take_at, take-append-le, get_or-take, get_or_append_left, get_or-append-add}
use Rattle.std.proofs.lemmas.Bool.{and_left, and_right, lt-ltb, le-ltb, ltb-false, cases_Bool, cases_lt, both_ways, cond-true}
use Rattle.bit_block.specs.Widths.{w1, wd}
use Rattle.bitset_interface.specs.Source.{Source, Lawful}
use Rattle.bit_block.specs.Bit.{bit_of}
use Rattle.bit_block.specs.Raised.{raised}
use Rattle.packing.specs.declared.Numbers.{Numbers}
use Rattle.bit_block.specs.Ranges.{total, count}
use Rattle.packing.specs.Gathered.{gather, words_of}
use Rattle.packing.specs.Packed.{held, blocks, full, row_count, block_count, level1, level1_to, before, four, quarter, needed, start_words, data_words, data_row, packed}
use Rattle.packing.specs.Meaning.{k1of, kdof, Rows, Counts, Starts, len_of, word_place, held_at, rank, block_place, bit_from, up_at}
use Rattle.bit_block.proofs.Counting.{total-same, count_add, count_same}
use Rattle.bitset_interface.proofs.Rows.{off}
use Rattle.packing.proofs.Ranges.{never_count, count-some}
use Rattle.packing.proofs.Words.{length-words}
use Rattle.packing.proofs.Gathers.{gather_at, gather_take, gather_room, sum_gather}
use Rattle.packing.proofs.Ones.{word_at, number_bit, ones_words, ones_take_words, get_or-words_of}
use Rattle.packing.proofs.Lengths.{length-level1, length-data_row, length_data, length_singles}
use Rattle.packing.proofs.Filling.{length_starts}
use Rattle.packing.proofs.Held.{held_yes, held_under, held_past, full-past}
use Rattle.packing.proofs.Lookups.{place_lt}

-- word q of a list of single words
pub get_or_singles : (g : ℕ → ℕ) (n q : ℕ) → q < n → get_or (gather (λ x. g x ∷ []) n) q 0 ≡ g q
get_or_singles g n q h =
    let e : length (gather (λ x. g x ∷ []) q) + 0 ≡ q = omega (arith, length_singles g q) in
    ap (λ (x : ℕ). get_or (gather (λ y. g y ∷ []) n) x 0) (sym e) ∙ gather_at (λ x. g x ∷ []) n q 0 h (omega arith)

sum_if : (b : Bool) (xs : List ℕ) (n : ℕ) → (b ≡ true → sum_by ones xs ≡ n) → (b ≡ false → n ≡ 0) → sum_by ones (cond b xs []) ≡ n
sum_if true xs n f g = f refl
sum_if false xs n f g = sym (g refl)

module _ (s : Source) (law : Lawful s) where
  abbrev h : ℕ → ℕ → Bool
  h = held s

  held_wide : (i j : ℕ) → w1 s.conf ≤ j → h i j ≡ false
  held_wide i j l = held_under s law i j (⊎_elim (λ t. absurd (omega (arith, law.below1 i j t))) (λ e. e) (cases_Bool (s.up1 i j)))

  -- a row that holds a block is full
  full_from : (i j : ℕ) → h i j ≡ true → full h i ≡ true
  unfolding blocks
  full_from i j e =
      let l : j < 256 = ⊎_elim (λ l. l) (λ g. absurd (both_ways (h i j) (held_past s law i j g) e)) (cases_lt j 256) in
      lt-ltb 0 (count (h i) 256) (count-some (h i) 256 j l e)

  full_below : (i : ℕ) → full h i ≡ true → i < 256
  full_below i e = ⊎_elim (λ l. l) (λ g. absurd (both_ways (full h i) (full-past s law i g) e)) (cases_lt i 256)

  module _ (k : ℕ) (wide : w1 s.conf ≡ k * 64) (small : k ≤ 4) where
    -- all the blocks of a row stand below the width
    count_cut : (i : ℕ) → count (h i) (k * 64) ≡ blocks h i
    unfolding blocks
    count_cut i =
        let r : ℕ = 256 - k * 64 in
        let e : k * 64 + r ≡ 256 = omega arith in
        let z : count (λ t. h i (k * 64 + t)) r ≡ 0 = never_count (λ t. h i (k * 64 + t)) r (λ t. held_wide i (k * 64 + t) (omega (arith, wide))) in
        omega (arith, ap (count (h i)) e, count_add (h i) (k * 64) r, z)

    abbrev part : ℕ → List ℕ
    part i = cond (full h i) (words_of k (h i)) []

    part_ones : (i : ℕ) → sum_by ones (part i) ≡ blocks h i
    part_ones i = sum_if (full h i) (words_of k (h i)) (blocks h i) (λ _. ones_words (h i) k ∙ count_cut i) (λ e. omega (arith, ltb-false 0 (blocks h i) e))

    rows_ones : (n : ℕ) → sum_by ones (level1_to k h n) ≡ total (blocks h) n
    rows_ones n = sum_gather part ones n ∙ total-same (λ i. sum_by ones (part i)) (blocks h) n (λ i _. part_ones i)

    module _ (i : ℕ) (up : full h i ≡ true) (q : ℕ) (hq : q < k) where
      part_is : part i ≡ words_of k (h i)
      part_is = cond-true (full h i) (words_of k (h i)) [] up

      part_room : q < length (part i)
      part_room = omega (arith, ap length part_is, length-words k (h i))

      -- word q of row i
      row_word : get_or (level1 k h) (count (full h) i * k + q) 0 ≡ word_at (h i) q
      row_word =
          ap (λ (x : ℕ). get_or (level1 k h) (x + q) 0) (sym (length-level1 k h i))
          ∙ gather_at part 256 i q (full_below i up) part_room
          ∙ ap (λ (xs : List ℕ). get_or xs q 0) part_is ∙ get_or-words_of (h i) k q hq

      -- the ones before it
      row_before : before (level1 k h) (count (full h) i * k + q) ≡ total (blocks h) i + count (h i) (q * 64)
      unfolding before
      row_before =
          ap (λ (x : ℕ). sum_by ones (take (x + q) (level1 k h))) (sym (length-level1 k h i))
          ∙ ap (sum_by ones) (gather_take part 256 i q (full_below i up) (omega (arith, part_room)))
          ∙ sum_by-append ones (gather part i) (take q (part i))
          ∙ ap₂ ◌+◌ (rows_ones i) (ap (λ (xs : List ℕ). sum_by ones (take q xs)) part_is ∙ ones_take_words (h i) k q hq)

  -- word q of block (i, j) among the data words
  module _ (k : ℕ) (i j : ℕ) (up : h i j ≡ true) (q : ℕ) (hq : q < k) where
    abbrev piece : ℕ → List ℕ
    piece x = cond (h i x) (words_of k (s.up2 i x)) []

    piece_is : piece j ≡ words_of k (s.up2 i j)
    piece_is = cond-true (h i j) (words_of k (s.up2 i j)) [] up

    j_below : j < 256
    j_below = ⊎_elim (λ l. l) (λ g. absurd (both_ways (h i j) (held_past s law i j g) up)) (cases_lt j 256)

    i_below : i < 256
    i_below = full_below i (full_from i j up)

    piece_room : q < length (piece j)
    piece_room = omega (arith, ap length piece_is, length-words k (s.up2 i j))

    in_row : count (h i) j * k + q < length (data_row k s i)
    in_row = omega (arith, gather_room piece 256 j j_below, length-data_row k s i j, piece_room)

    data_room : total (blocks h) i * k + (count (h i) j * k + q) < length (data_words k s)
    data_room = omega (arith, gather_room (data_row k s) 256 i i_below, length_data k s i, in_row)

    data_word : get_or (data_words k s) (total (blocks h) i * k + (count (h i) j * k + q)) 0 ≡ word_at (s.up2 i j) q
    data_word =
        ap (λ (x : ℕ). get_or (data_words k s) (x + (count (h i) j * k + q)) 0) (sym (length_data k s i))
        ∙ gather_at (data_row k s) 256 i (count (h i) j * k + q) i_below in_row
        ∙ ap (λ (x : ℕ). get_or (data_row k s i) (x + q) 0) (sym (length-data_row k s i j))
        ∙ gather_at piece 256 j q j_below piece_room
        ∙ ap (λ (xs : List ℕ). get_or xs q 0) piece_is ∙ get_or-words_of (s.up2 i j) k q hq

  module _ (m : Numbers) (ws : List ℕ) (top : raised m.level0 ≡ full h) (rows : m.n ≡ row_count h) (blks : m.d ≡ block_count h)
      (wide1 : w1 s.conf ≡ k1of m * 64) (wided : wd s.conf ≡ kdof m * 64) (small1 : k1of m ≤ 4) (smalld : kdof m ≤ 4)
      (front : take (needed (k1of m) (kdof m) m.n m.d) ws ≡ packed (k1of m) (kdof m) s) (fits : needed (k1of m) (kdof m) m.n m.d ≤ length ws) where
    abbrev L : List ℕ
    L = level1 (k1of m) h

    abbrev S : List ℕ
    S = start_words L

    abbrev D : List ℕ
    D = data_words (kdof m) s

    abbrev N : ℕ
    N = needed (k1of m) (kdof m) m.n m.d

    len_l : length L ≡ len_of m
    len_l = length-level1 (k1of m) h 256 ∙ ap (λ (x : ℕ). x * k1of m) (sym rows)

    len_s : length S ≡ quarter (len_of m)
    len_s = length_starts L ∙ ap quarter len_l

    len_d : length D ≡ m.d * kdof m
    len_d = length_data (kdof m) s 256 ∙ ap (λ (x : ℕ). x * kdof m) (sym blks)

    len_ls : length (L ++ S) ≡ len_of m + quarter (len_of m)
    len_ls = omega (arith, length-append L S, len_l, len_s)

    at_front : (p : ℕ) → p < N → get_or ws p 0 ≡ get_or ((L ++ S) ++ D) p 0
    at_front p l = sym (get_or-take N ws p 0 l) ∙ ap (λ (xs : List ℕ). get_or xs p 0) front

    at_l : (p : ℕ) → p < len_of m → get_or ws p 0 ≡ get_or L p 0
    at_l p l = at_front p (omega arith) ∙ get_or_append_left (L ++ S) D 0 p (omega (arith, len_ls)) ∙ get_or_append_left L S 0 p (omega (arith, len_l))

    at_s : (q : ℕ) → q < quarter (len_of m) → get_or ws (len_of m + q) 0 ≡ get_or S q 0
    at_s q l =
        at_front (len_of m + q) (omega arith) ∙ get_or_append_left (L ++ S) D 0 (len_of m + q) (omega (arith, len_ls))
        ∙ ap (λ (x : ℕ). get_or (L ++ S) (x + q) 0) (sym len_l) ∙ get_or-append-add L S q 0

    at_d : (r : ℕ) → r < m.d * kdof m → get_or ws (len_of m + quarter (len_of m) + r) 0 ≡ get_or D r 0
    at_d r l =
        at_front (len_of m + quarter (len_of m) + r) (omega arith)
        ∙ ap (λ (x : ℕ). get_or ((L ++ S) ++ D) (x + r) 0) (sym len_ls) ∙ get_or-append-add (L ++ S) D r 0

    take_l : take (len_of m) ws ≡ L
    take_l =
        sym (take-take (len_of m) N ws (omega arith)) ∙ ap (take (len_of m)) front
        ∙ take-append-le (len_of m) (L ++ S) D (omega (arith, len_ls)) ∙ take_at L S (len_of m) len_l

    all_ones : before L (len_of m) ≡ m.d
    unfolding before
    all_ones = ap (sum_by ones) (take_all (len_of m) L (omega (arith, len_l))) ∙ rows_ones (k1of m) wide1 small1 256 ∙ sym blks

    pub rows_are : Rows m
    rows_are = rows ∙ ap (λ (f : ℕ → Bool). count f 256) (sym top)

    pub counts_are : Counts m ws
    counts_are = (sym all_ones ∙ ap (λ (xs : List ℕ). before xs (len_of m)) (sym take_l), fits)

    pub starts_are : Starts m ws
    starts_are q l = at_s q l ∙ get_or_singles (λ x. four L (4 * x)) (quarter (length L)) q (omega (arith, len_l)) ∙ ap (λ (xs : List ℕ). four xs (4 * q)) (sym take_l)

    up_at_lem : (i : ℕ) → raised m.level0 i ≡ full h i
    up_at_lem i = ap (λ (f : ℕ → Bool). f i) top

    place_is : (i j : ℕ) → word_place m i j ≡ count (full h) i * k1of m + j / 64
    place_is i j = ap (λ (f : ℕ → Bool). count f i * k1of m + j / 64) top

    module _ (i : ℕ) (up : full h i ≡ true) (j : ℕ) (hj : j < k1of m * 64) where
      word_is : get_or ws (word_place m i j) 0 ≡ word_at (h i) (j / 64)
      word_is =
          at_l (word_place m i j) (place_lt m ws rows_are counts_are i (full_below i up) (up_at_lem i ∙ up) j hj)
          ∙ ap (λ (x : ℕ). get_or L x 0) (place_is i j)
          ∙ row_word (k1of m) wide1 small1 i up (j / 64) (omega arith)

      bit_is : bit_of (get_or ws (word_place m i j) 0) (j % 64) ≡ h i j
      bit_is =
          ap (λ (x : ℕ). bit_of x (j % 64)) word_is
          ∙ number_bit (λ t. h i (j / 64 * 64 + t)) 64 (j % 64) (mod_below j 64 (omega arith))
          ∙ ap (h i) (div-add-mod' j 64)

      rank_is : rank m ws i j ≡ total (blocks h) i + count (h i) j
      rank_is =
          let a : before (take (len_of m) ws) (word_place m i j) ≡ total (blocks h) i + count (h i) (j / 64 * 64) =
          ap₂ before take_l (place_is i j) ∙ row_before (k1of m) wide1 small1 i up (j / 64) (omega arith) in
          let b : count (bit_of (get_or ws (word_place m i j) 0)) (j % 64) ≡ count (λ t. h i (j / 64 * 64 + t)) (j % 64) =
          ap (λ (x : ℕ). count (bit_of x) (j % 64)) word_is
          ∙ count_same (bit_of (word_at (h i) (j / 64))) (λ t. h i (j / 64 * 64 + t)) (j % 64)
          (λ t l. number_bit (λ t. h i (j / 64 * 64 + t)) 64 t (omega (arith, mod_below j 64 (omega arith)))) in
          let c : count (h i) (j / 64 * 64 + j % 64) ≡ count (h i) j = ap (count (h i)) (div-add-mod' j 64) in
          omega (arith, a, b, c, count_add (h i) (j / 64 * 64) (j % 64))

    -- which blocks are held
    pub held_same : (i j : ℕ) → held_at m ws i j ≡ h i j
    unfolding held_at
    held_same i j =
        ⊎_elim
        (λ up. ⊎_elim
        (λ l. ap₂ (λ (b d : Bool). b && d) (up_at_lem i ∙ up) (ap₂ (λ (b d : Bool). b && d) (lt-ltb j (k1of m * 64) l) (bit_is i up j l)))
        (λ l. and_right (raised m.level0 i) _ (and_left (ltb j (k1of m * 64)) _ (le-ltb j (k1of m * 64) l)) ∙ sym (held_wide i j (omega (arith, wide1))))
        (cases_lt j (k1of m * 64)))
        (λ no. and_left (raised m.level0 i) _ (up_at_lem i ∙ no) ∙ sym (off (h i j) (full h i) (full_from i j) no))
        (cases_Bool (full h i))

    block_bit : (i j : ℕ) → h i j ≡ true → (t : ℕ) → t < kdof m * 64 → bit_of (get_or ws (block_place m ws i j + t / 64) 0) (t % 64) ≡ s.up2 i j t
    unfolding block_place
    block_bit i j up t l =
        let hj : j < k1of m * 64 = ⊎_elim (λ l. l) (λ g. absurd (both_ways (h i j) (held_wide i j (omega (arith, wide1, g))) up)) (cases_lt j (k1of m * 64)) in
        let k : ℕ = kdof m in
        let T : ℕ = total (blocks h) i in
        let C : ℕ = count (h i) j in
        let r : rank m ws i j * k ≡ T * k + C * k = ap (λ (x : ℕ). x * k) (rank_is i (full_from i j up) j hj) ∙ add-mul T C k in
        let hq : t / 64 < k = omega arith in
        let p : len_of m + quarter (len_of m) + rank m ws i j * k + t / 64 ≡ len_of m + quarter (len_of m) + (T * k + (C * k + t / 64)) = omega (arith, r) in
        ap (λ (x : ℕ). bit_of (get_or ws x 0) (t % 64)) p
        ∙ ap (λ (x : ℕ). bit_of x (t % 64)) (at_d (T * k + (C * k + t / 64)) (omega (arith, data_room k i j up (t / 64) hq, len_d)) ∙ data_word k i j up (t / 64) hq)
        ∙ number_bit (λ x. s.up2 i j (t / 64 * 64 + x)) 64 (t % 64) (mod_below t 64 (omega arith))
        ∙ ap (s.up2 i j) (div-add-mod' t 64)

    -- the words hold what the source holds
    pub up_same : (i j t : ℕ) → up_at m ws i j t ≡ s.up2 i j t
    up_same i j t =
        ⊎_elim
        (λ up. ap (λ (b : Bool). b && bit_from ws (block_place m ws i j) (kdof m) t) (held_same i j ∙ up)
        ∙ ⊎_elim
        (λ l. ap₂ (λ (b d : Bool). b && d) (lt-ltb t (kdof m * 64) l) (block_bit i j up t l))
        (λ l. and_left (ltb t (kdof m * 64)) _ (le-ltb t (kdof m * 64) l) ∙ sym (⊎_elim (λ y. absurd (omega (arith, law.below2 i j t y, wided))) (λ e. e) (cases_Bool (s.up2 i j t))))
        (cases_lt t (kdof m * 64)))
        (λ no. and_left (held_at m ws i j) _ (held_same i j ∙ no) ∙ sym (off (s.up2 i j t) (h i j) (held_yes s law i j t) no))
        (cases_Bool (h i j))

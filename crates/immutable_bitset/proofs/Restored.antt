-- What was read into words stores what the bytes store.
use Rattle.std.proofs.Common.{◌≡◌, ℕ, zero, suc, ◌+◌, ◌-◌, ◌*◌, ◌/◌, ◌%◌, ◌^◌, ◌<◌, ◌≤◌, List, [], ◌∷◌, ◌++◌, length, get_or, take, drop, replicate, sym, refl, ap, ◌∙◌, subst, ap₂, ⊎_elim, arith}
use Rattle.std.proofs.lemmas.List.{take_at, drop_at, take-take, drop-take, drop-drop, get_or-take, get_or-drop, get_or_past, get_or_append_left, get_or-append_right, get_or-replicate, ext_get_or, length-append, length-replicate}
use Rattle.std.proofs.lemmas.Bool.{cases_lt}
use Rattle.bit_block.specs.Widths.{bits}
use Rattle.bit_block.specs.declared.config.Width.{Width}
use Rattle.packing.specs.Gathered.{gather}
use Rattle.packing.specs.Meaning.{k1of, kdof, len_of}
use Rattle.packing.specs.Packed.{quarter}
use Rattle.packing.specs.StartWords.{four_of, field_in}
use Rattle.packing.specs.declared.Numbers.{Numbers}
use Rattle.packing.proofs.Lengths.{length_singles}
use Rattle.packing.proofs.Unpack.{get_or_singles}
use Rattle.reader.specs.LittleEndian.{numbers}
use Rattle.reader.proofs.LittleEndians.{length-numbers}
use Rattle.serialization.specs.Bodies.{needed_of, starts_in, level1_in, blocks_in, blocks_behind, start_words_in}
use Rattle.serialization.specs.Fieldwise.{mask_in, Starts16}
use Rattle.serialization.specs.Image.{n_in, d_in, reading}
use Rattle.serialization.specs.Layout.{size, words, level0_at, starts0_at, level1_at, starts1_at, data_at}
use Rattle.serialization.specs.Stored.{stored, field_at}
use Rattle.serialization.proofs.Bodies.{mask_words}

-- field e of the word of four starts
four_field : (xs : List ℕ) (e : ℕ) → e < 4 → Starts16 xs → four_of xs / 2 ^ (48 - 16 * e) % 65536 ≡ get_or xs e 0
four_field xs zero h small = omega (arith, small 0, small 1, small 2, small 3)
four_field xs (suc zero) h small = omega (arith, small 0, small 1, small 2, small 3)
four_field xs (suc (suc zero)) h small = omega (arith, small 0, small 1, small 2, small 3)
four_field xs (suc (suc (suc zero))) h small = omega (arith, small 0, small 1, small 2, small 3)
four_field xs (suc (suc (suc (suc e)))) h small = absurd (omega arith)

-- start x, from the word of it and its neighbours
start_of : (ns : List ℕ) (x : ℕ) → Starts16 ns → field_in (four_of (drop (4 * (x / 4)) ns)) x ≡ get_or ns x 0
start_of ns x small =
    let q : ℕ = 4 * (x / 4) in
    let below : Starts16 (drop q ns) = λ t. subst (λ (y : ℕ). y < 65536) (sym (get_or-drop q ns t 0)) (small (q + t)) in
    four_field (drop q ns) (x % 4) (omega arith) below ∙ get_or-drop q ns (x % 4) 0 ∙ ap (λ (y : ℕ). get_or ns y 0) (let e : q + x % 4 ≡ x = omega arith in e)

module _ (m : Numbers) (ys ws : List ℕ) (small : Starts16 (starts_in m ys)) (room : needed_of m ≤ length ws)
    (front : take (needed_of m) ws ≡ level1_in m ys ++ blocks_in m (drop (blocks_behind m) ys)) where
  -- the parts
  abbrev A : List ℕ
  A = numbers 8 (len_of m) ys

  abbrev B : List ℕ
  B = start_words_in (len_of m) (drop (m.n * size m.config.level1) ys) (quarter (len_of m))

  abbrev C : List ℕ
  C = blocks_in m (drop (blocks_behind m) ys)

  long-A : length A ≡ len_of m
  long-A = length-numbers 8 (len_of m) ys

  long-B : length B ≡ quarter (len_of m)
  long-B = length_singles _ (quarter (len_of m))

  long-AB : length (A ++ B) ≡ len_of m + quarter (len_of m)
  long-AB = omega (arith, length-append A B, long-A, long-B)

  -- the level-1 words
  rows_are : take (len_of m) ws ≡ A
  rows_are =
      sym (take-take (len_of m) (needed_of m) ws (omega arith)) ∙ ap (take (len_of m)) front
      ∙ sym (take-take (len_of m) (len_of m + quarter (len_of m)) (A ++ B ++ C) (omega arith)) ∙ ap (take (len_of m)) (take_at (A ++ B) C (len_of m + quarter (len_of m)) long-AB)
      ∙ take_at A B (len_of m) long-A

  -- the words of the starts
  start_word : (q : ℕ) → q < quarter (len_of m) → get_or (drop (len_of m) ws) q 0 ≡ four_of (drop (4 * q) (starts_in m ys))
  start_word q h =
      let at : ℕ = len_of m + q in
      let back : at - len_of m ≡ q = omega arith in
      get_or-drop (len_of m) ws q 0
      ∙ sym (get_or-take (needed_of m) ws at 0 (omega arith))
      ∙ ap (λ (xs : List ℕ). get_or xs at 0) front
      ∙ get_or_append_left (A ++ B) C 0 at (omega (arith, long-AB))
      ∙ get_or-append_right A B (len_of m) at 0 long-A (omega arith)
      ∙ ap (λ (x : ℕ). get_or B x 0) back
      ∙ get_or_singles (λ x. four_of (drop (4 * x) (starts_in m ys))) (quarter (len_of m)) q h

  -- each start, and 0 past the last
  pub field_is_start : (x : ℕ) → x < 4 * quarter (len_of m) → field_at (drop (len_of m) ws) x ≡ get_or (starts_in m ys) x 0
  field_is_start x h = ap (λ (w : ℕ). field_in w x) (start_word (x / 4) (omega arith)) ∙ start_of (starts_in m ys) x small

  pub field_past : (x : ℕ) → len_of m ≤ x → x < 4 * quarter (len_of m) → field_at (drop (len_of m) ws) x ≡ 0
  field_past x l h = field_is_start x h ∙ get_or_past (starts_in m ys) x 0 (omega (arith, length-numbers 2 (len_of m) (drop (m.n * size m.config.level1) ys)))

  -- the starts
  starts_are : gather (λ q. field_at (drop (len_of m) ws) q ∷ []) (len_of m) ≡ starts_in m ys
  starts_are =
      let f : ℕ → ℕ = field_at (drop (len_of m) ws) in
      let l : length (gather (λ q. f q ∷ []) (len_of m)) ≡ len_of m = length_singles f (len_of m) in
      ext_get_or 0 (gather (λ q. f q ∷ []) (len_of m)) (starts_in m ys) (l ∙ sym (length-numbers 2 (len_of m) (drop (m.n * size m.config.level1) ys)))
      (λ i h. get_or_singles f (len_of m) i (omega (arith, h, l)) ∙ field_is_start i (omega (arith, h, l)))

  -- the blocks
  blocks_are : take (m.d * kdof m) (drop (len_of m + quarter (len_of m)) ws) ≡ C
  blocks_are =
      sym (drop-take (len_of m + quarter (len_of m)) (m.d * kdof m) ws) ∙ ap (drop (len_of m + quarter (len_of m))) front ∙ drop_at (A ++ B) C (len_of m + quarter (len_of m)) long-AB

-- the numbers and the words store what the bytes store
pub restored : (m : Numbers) (xs ws : List ℕ) → m.n ≡ n_in xs → m.d ≡ d_in xs → m.level0.words ≡ mask_in m.config.level0 (drop (level0_at m.config) xs)
    → m.starts ≡ take 8 (drop (starts0_at m.config) xs) → Starts16 (starts_in m (drop (level1_at m.config) xs)) → needed_of m ≤ length ws
    → take (needed_of m) ws ≡ level1_in m (drop (level1_at m.config) xs) ++ blocks_in m (drop (blocks_behind m) (drop (level1_at m.config) xs)) → reading m.config xs ≡ stored m ws
unfolding reading k1of kdof
restored m xs ws en ed et es small room front =
    let ys : List ℕ = drop (level1_at m.config) xs in
    let k : ℕ = words m.config.level1 in
    let ends : level1_at m.config + blocks_behind m ≡ data_at m.config m.n = omega arith in
    let rs : numbers 8 (n_in xs * k) ys ≡ take (len_of m) ws = ap (λ (n : ℕ). numbers 8 (n * k) ys) (sym en) ∙ sym (rows_are m ys ws small room front) in
    let ss : numbers 2 (n_in xs * k) (drop (starts1_at m.config (n_in xs)) xs) ≡ gather (λ q. field_at (drop (len_of m) ws) q ∷ []) (len_of m) =
    ap (λ (n : ℕ). numbers 2 (n * k) (drop (starts1_at m.config n) xs)) (sym en) ∙ ap (numbers 2 (m.n * k)) (sym (drop-drop (m.n * size m.config.level1) (level1_at m.config) xs)) ∙ sym (starts_are m ys ws small room front) in
    let bs : numbers 8 (d_in xs * words m.config.«data») (drop (data_at m.config (n_in xs)) xs) ≡ take (m.d * kdof m) (drop (len_of m + quarter (len_of m)) ws) =
    ap₂ (λ (n d : ℕ). numbers 8 (d * words m.config.«data») (drop (data_at m.config n) xs)) (sym en) (sym ed)
    ∙ ap (numbers 8 (m.d * words m.config.«data»)) (sym (drop-drop (blocks_behind m) (level1_at m.config) xs ∙ ap (λ (n : ℕ). drop n xs) ends)) ∙ sym (blocks_are m ys ws small room front) in
    let ts : numbers 8 (words m.config.level0) (drop (level0_at m.config) xs) ≡ take (bits m.config.level0 / 64) m.level0.words =
    sym (ap (take (words m.config.level0)) et ∙ mask_words m.config.level0 (words m.config.level0) (drop (level0_at m.config) xs) refl) in
    let s0 : take 8 (drop (starts0_at m.config) xs) ≡ m.starts = sym es in
    let n0 : n_in xs ≡ m.n = sym en in
    let d0 : d_in xs ≡ m.d = sym ed in
    λ i. record { n = n0 i; d = d0 i; top = ts i; starts0 = s0 i; rows = rs i; starts1 = ss i; blocks = bs i }

-- the words of a mask past its width
pub mask_zeros : (w : Width) (xs : List ℕ) (q : ℕ) → words w ≤ q → get_or (mask_in w xs) q 0 ≡ 0
mask_zeros w xs q h =
    get_or-append_right (numbers 8 (words w) xs) (replicate (4 - words w) 0) (words w) q 0 (length-numbers 8 (words w) xs) h
    ∙ ⊎_elim (λ (l : q - words w < 4 - words w). get_or-replicate {A = ℕ} (4 - words w) (q - words w) 0 0 l)
    (λ (l : 4 - words w ≤ q - words w). get_or_past {X = ℕ} (replicate (4 - words w) 0) (q - words w) 0 (omega (arith, l, length-replicate {A = ℕ} (4 - words w) 0)))
    (cases_lt (q - words w) (4 - words w))

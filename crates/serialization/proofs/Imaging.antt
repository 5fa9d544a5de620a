-- An image has the length that its numbers say, and what it stores can be read back.
use Rattle.std.proofs.Common.{◌≡◌, ℕ, ◌+◌, ◌*◌, ◌^◌, ◌<◌, List, [], ◌++◌, length, get_or, take, drop, sym, ap, ◌∙◌, ap₂, arith}
use Rattle.std.proofs.lemmas.List.{append_assoc, append-nil, length-append, length-replicate, take_at, drop_at}
use Rattle.bit_block.specs.declared.config.Config.{Config}
use Rattle.reader.specs.LittleEndian.{bytes, value, laid, numbers}
use Rattle.reader.proofs.LittleEndians.{length-bytes, value-bytes, length-laid, numbers-laid}
use Rattle.serialization.specs.Layout.{size, words, padding, header_size, level0_at, starts0_at, starts0_end, level1_at, starts1_at, starts1_end, data_at, image_length}
use Rattle.serialization.specs.Stored.{Stored}
use Rattle.serialization.specs.Image.{version, zeros, header, image, version_in, n_in, d_in, reading}
use Rattle.serialization.specs.Shapes.{Shaped, Bounded}
use Rattle.serialization.proofs.Lengths.{size-words, length_masks}

-- the parts of an image, cut behind the header, before each part that is read, and at the end
module _ (h z0 t s0 z1 r s1 z2 b rest : List ℕ) where
  abbrev joined : List ℕ
  joined = h ++ (z0 ++ t ++ s0) ++ (z1 ++ r ++ s1) ++ (z2 ++ b) ++ rest

  cut_header : joined ≡ h ++ (z0 ++ (t ++ (s0 ++ (z1 ++ (r ++ (s1 ++ (z2 ++ (b ++ rest))))))))
  cut_header = simp append_assoc

  cut_top : joined ≡ (h ++ z0) ++ (t ++ (s0 ++ (z1 ++ (r ++ (s1 ++ (z2 ++ (b ++ rest)))))))
  cut_top = simp append_assoc

  cut_starts0 : joined ≡ (h ++ z0 ++ t) ++ (s0 ++ (z1 ++ (r ++ (s1 ++ (z2 ++ (b ++ rest))))))
  cut_starts0 = simp append_assoc

  cut_rows : joined ≡ (h ++ z0 ++ t ++ s0 ++ z1) ++ (r ++ (s1 ++ (z2 ++ (b ++ rest))))
  cut_rows = simp append_assoc

  cut_starts1 : joined ≡ (h ++ z0 ++ t ++ s0 ++ z1 ++ r) ++ (s1 ++ (z2 ++ (b ++ rest)))
  cut_starts1 = simp append_assoc

  cut_blocks : joined ≡ (h ++ z0 ++ t ++ s0 ++ z1 ++ r ++ s1 ++ z2) ++ (b ++ rest)
  cut_blocks = simp append_assoc

  cut_rest : joined ≡ (h ++ z0 ++ t ++ s0 ++ z1 ++ r ++ s1 ++ z2 ++ b) ++ rest
  cut_rest = simp append_assoc

-- one part more
longer : (xs ys : List ℕ) (m k : ℕ) → length xs ≡ m → length ys ≡ k → length (xs ++ ys) ≡ m + k
longer xs ys m k d e = length-append xs ys ∙ ap₂ ◌+◌ d e

-- version and n
length_counts : (n : ℕ) → length (bytes 2 version ++ bytes 2 n) ≡ 4
length_counts n = longer (bytes 2 version) (bytes 2 n) 2 2 (length-bytes 2 version) (length-bytes 2 n)

-- version, n and d
pub length-header : (r : Stored) → length (header r) ≡ header_size
length-header r = longer (bytes 2 version ++ bytes 2 r.n) (bytes 4 r.d) 4 4 (length_counts r.n) (length-bytes 4 r.d)

-- numbers that stand in bytes behind a part p
at_part : (k m n : ℕ) (xs p ys q : List ℕ) → xs ≡ p ++ (laid k ys ++ q) → length p ≡ m → length ys ≡ n → ((t : ℕ) → get_or ys t 0 < 256 ^ k) → numbers k n (drop m xs) ≡ ys
at_part k m n xs p ys q e f g h =
    ap₂ (numbers k) (sym g) (ap (drop m) e ∙ drop_at p (laid k ys ++ q) m f) ∙ numbers-laid k ys q h

module _ (c : Config) (r : Stored) where
  -- the paddings and the parts of words and starts
  abbrev Z0 : List ℕ
  Z0 = zeros (size c.level0) header_size

  abbrev T : List ℕ
  T = laid 8 r.top

  abbrev Z1 : List ℕ
  Z1 = zeros (size c.level1) (starts0_end c)

  abbrev R : List ℕ
  R = laid 8 r.rows

  abbrev S1 : List ℕ
  S1 = laid 2 r.starts1

  abbrev Z2 : List ℕ
  Z2 = zeros (size c.«data») (starts1_end c r.n)

  abbrev B : List ℕ
  B = laid 8 r.blocks

  -- all that stands before a part, left to right
  abbrev before-starts0 : List ℕ
  before-starts0 = header r ++ Z0 ++ T

  abbrev before-rows : List ℕ
  before-rows = before-starts0 ++ r.starts0 ++ Z1

  abbrev before-starts1 : List ℕ
  before-starts1 = before-rows ++ R

  abbrev before-blocks : List ℕ
  before-blocks = before-starts1 ++ S1 ++ Z2

  -- all that stands behind the header, before other bytes
  abbrev behind : List ℕ → List ℕ
  behind rest = Z0 ++ (T ++ (r.starts0 ++ (Z1 ++ (R ++ (S1 ++ (Z2 ++ (B ++ rest)))))))

  module _ (sh : Shaped c r) where
    -- each part begins where the layout says
    to_top : length (header r ++ Z0) ≡ level0_at c
    to_top = longer (header r) Z0 header_size (padding (size c.level0) header_size) (length-header r) (length-replicate (padding (size c.level0) header_size) 0)

    to_starts0 : length before-starts0 ≡ starts0_at c
    to_starts0 = longer (header r ++ Z0) T (level0_at c) (size c.level0) to_top (length-laid 8 r.top ∙ ap (λ (k : ℕ). k * 8) sh.top ∙ sym (size-words c.level0))

    to_rows : length before-rows ≡ level1_at c
    to_rows =
        longer (before-starts0 ++ r.starts0) Z1 (starts0_end c) (padding (size c.level1) (starts0_end c))
        (longer before-starts0 r.starts0 (starts0_at c) 8 to_starts0 sh.starts0) (length-replicate (padding (size c.level1) (starts0_end c)) 0)

    to_starts1 : length before-starts1 ≡ starts1_at c r.n
    to_starts1 = longer before-rows R (level1_at c) (r.n * size c.level1) to_rows (length_masks c.level1 r.n r.rows sh.rows)

    to_blocks : length before-blocks ≡ data_at c r.n
    to_blocks =
        longer (before-starts1 ++ S1) Z2 (starts1_end c r.n) (padding (size c.«data») (starts1_end c r.n))
        (longer before-starts1 S1 (starts1_at c r.n) (r.n * words c.level1 * 2) to_starts1 (length-laid 2 r.starts1 ∙ ap (λ (k : ℕ). k * 2) sh.starts1))
        (length-replicate (padding (size c.«data») (starts1_end c r.n)) 0)

    to_end : length (before-blocks ++ B) ≡ image_length c r.n r.d
    to_end = longer before-blocks B (data_at c r.n) (r.d * size c.«data») to_blocks (length_masks c.«data» r.d r.blocks sh.blocks)

    -- an image is as long as its numbers say
    pub length_image : length (image c r) ≡ image_length c r.n r.d
    unfolding image
    length_image = ap length (sym (append-nil (image c r)) ∙ cut_rest (header r) Z0 T r.starts0 Z1 R S1 Z2 B [] ∙ append-nil (before-blocks ++ B)) ∙ to_end

    module _ (bd : Bounded r) (rest : List ℕ) where
      -- the bytes cut in the header
      all_is_d : image c r ++ rest ≡ (bytes 2 version ++ bytes 2 r.n) ++ (bytes 4 r.d ++ behind rest)
      unfolding image
      all_is_d = cut_header (header r) Z0 T r.starts0 Z1 R S1 Z2 B rest ∙ append_assoc (bytes 2 version ++ bytes 2 r.n) (bytes 4 r.d) (behind rest)

      all_is_n : image c r ++ rest ≡ bytes 2 version ++ (bytes 2 r.n ++ (bytes 4 r.d ++ behind rest))
      all_is_n = all_is_d ∙ append_assoc (bytes 2 version) (bytes 2 r.n) (bytes 4 r.d ++ behind rest)

      -- an image says version 3
      pub version_image : version_in (image c r ++ rest) ≡ 3
      version_image =
          ap version_in all_is_n ∙ ap value (take_at (bytes 2 version) (bytes 2 r.n ++ (bytes 4 r.d ++ behind rest)) 2 (length-bytes 2 version))
          ∙ value-bytes 2 version (omega arith)

      -- an image says how many level-1 masks it has
      pub n_image : n_in (image c r ++ rest) ≡ r.n
      n_image =
          ap n_in all_is_n
          ∙ ap (λ (xs : List ℕ). value (take 2 xs)) (drop_at (bytes 2 version) (bytes 2 r.n ++ (bytes 4 r.d ++ behind rest)) 2 (length-bytes 2 version))
          ∙ ap value (take_at (bytes 2 r.n) (bytes 4 r.d ++ behind rest) 2 (length-bytes 2 r.n)) ∙ value-bytes 2 r.n bd.n

      -- an image says how many blocks it has
      pub d_image : d_in (image c r ++ rest) ≡ r.d
      d_image =
          ap d_in all_is_d
          ∙ ap (λ (xs : List ℕ). value (take 4 xs)) (drop_at (bytes 2 version ++ bytes 2 r.n) (bytes 4 r.d ++ behind rest) 4 (length_counts r.n))
          ∙ ap value (take_at (bytes 4 r.d) (behind rest) 4 (length-bytes 4 r.d)) ∙ value-bytes 4 r.d bd.d

      -- each part is what stands at its place
      top_image : numbers 8 (words c.level0) (drop (level0_at c) (image c r ++ rest)) ≡ r.top
      unfolding image
      top_image =
          at_part 8 (level0_at c) (words c.level0) (image c r ++ rest) (header r ++ Z0) r.top (r.starts0 ++ (Z1 ++ (R ++ (S1 ++ (Z2 ++ (B ++ rest))))))
          (cut_top (header r) Z0 T r.starts0 Z1 R S1 Z2 B rest) to_top sh.top bd.top

      starts0_image : take 8 (drop (starts0_at c) (image c r ++ rest)) ≡ r.starts0
      unfolding image
      starts0_image =
          let q : List ℕ = Z1 ++ (R ++ (S1 ++ (Z2 ++ (B ++ rest)))) in
          ap (λ (xs : List ℕ). take 8 (drop (starts0_at c) xs)) (cut_starts0 (header r) Z0 T r.starts0 Z1 R S1 Z2 B rest)
          ∙ ap (take 8) (drop_at before-starts0 (r.starts0 ++ q) (starts0_at c) to_starts0) ∙ take_at r.starts0 q 8 sh.starts0

      rows_image : numbers 8 (r.n * words c.level1) (drop (level1_at c) (image c r ++ rest)) ≡ r.rows
      unfolding image
      rows_image =
          at_part 8 (level1_at c) (r.n * words c.level1) (image c r ++ rest) before-rows r.rows (S1 ++ (Z2 ++ (B ++ rest)))
          (cut_rows (header r) Z0 T r.starts0 Z1 R S1 Z2 B rest) to_rows sh.rows bd.rows

      starts1_image : numbers 2 (r.n * words c.level1) (drop (starts1_at c r.n) (image c r ++ rest)) ≡ r.starts1
      unfolding image
      starts1_image =
          at_part 2 (starts1_at c r.n) (r.n * words c.level1) (image c r ++ rest) before-starts1 r.starts1 (Z2 ++ (B ++ rest))
          (cut_starts1 (header r) Z0 T r.starts0 Z1 R S1 Z2 B rest) to_starts1 sh.starts1 bd.starts1

      blocks_image : numbers 8 (r.d * words c.«data») (drop (data_at c r.n) (image c r ++ rest)) ≡ r.blocks
      unfolding image
      blocks_image =
          at_part 8 (data_at c r.n) (r.d * words c.«data») (image c r ++ rest) before-blocks r.blocks rest
          (cut_blocks (header r) Z0 T r.starts0 Z1 R S1 Z2 B rest) to_blocks sh.blocks bd.blocks

      -- what an image stores is read back from it, whatever follows
      pub reading_image : reading c (image c r ++ rest) ≡ r
      unfolding reading
      reading_image =
          let xs : List ℕ = image c r ++ rest in
          let k : ℕ = words c.level1 in
          let rs : numbers 8 (n_in xs * k) (drop (level1_at c) xs) ≡ r.rows = ap (λ (n : ℕ). numbers 8 (n * k) (drop (level1_at c) xs)) n_image ∙ rows_image in
          let ss : numbers 2 (n_in xs * k) (drop (starts1_at c (n_in xs)) xs) ≡ r.starts1 = ap (λ (n : ℕ). numbers 2 (n * k) (drop (starts1_at c n) xs)) n_image ∙ starts1_image in
          let bs : numbers 8 (d_in xs * words c.«data») (drop (data_at c (n_in xs)) xs) ≡ r.blocks = ap₂ (λ (n d : ℕ). numbers 8 (d * words c.«data») (drop (data_at c n) xs)) n_image d_image ∙ blocks_image in
          λ i. record { n = n_image i; d = d_image i; top = top_image i; starts0 = starts0_image i; rows = rs i; starts1 = ss i; blocks = bs i }

-- two that have the same image are the same
pub image_injective : (c : Config) (r q : Stored) → Shaped c r → Bounded r → Shaped c q → Bounded q → image c r ≡ image c q → r ≡ q
image_injective c r q sr br sq bq e =
    sym (reading_image c r sr br []) ∙ ap (λ (xs : List ℕ). reading c (xs ++ [])) e ∙ reading_image c q sq bq []

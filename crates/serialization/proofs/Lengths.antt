-- How many bytes the fields of an image have.
use Rattle.std.proofs.Common.{◌≡◌, ℕ, ◌+◌, ◌*◌, List, ◌++◌, length, sym, refl, ap, ◌∙◌, mul_assoc, arith}
use Rattle.bit_block.specs.declared.config.Width.{Width}
use Rattle.bit_block.specs.declared.config.Width.TheVariants.{W64, W128, W256}
use Rattle.bit_block.specs.declared.config.Config.{Config}
use Rattle.reader.specs.Fields.{size_of}
use Rattle.reader.specs.LittleEndian.{laid}
use Rattle.reader.proofs.Fieldings.{size_of-append}
use Rattle.reader.proofs.LittleEndians.{length-laid}
use Rattle.serialization.specs.Layout.{size, words, image_length, level1_at, header_fields, top_fields, rest_fields, all_fields}

-- a mask has 8 bytes for each of its words
pub size-words : (w : Width) → size w ≡ words w * 8
size-words W64 = refl
size-words W128 = refl
size-words W256 = refl

-- the header has 8 bytes
pub size-header : size_of header_fields ≡ 8
unfolding size_of
size-header = refl

-- behind the header, up to the level-1 masks
pub size_top : (c : Config) → 8 + size_of (top_fields c) ≡ level1_at c
unfolding size_of
size_top c = omega arith

-- from there to the end
pub size_rest : (c : Config) (n d : ℕ) → level1_at c + size_of (rest_fields c n d) ≡ image_length c n d
unfolding size_of
size_rest c n d = omega arith

-- all fields together are as long as the image
pub sizes : (c : Config) (n d : ℕ) → size_of (all_fields c n d) ≡ image_length c n d
sizes c n d =
    omega (arith, size_of-append (header_fields ++ top_fields c) (rest_fields c n d), size_of-append header_fields (top_fields c), size-header, size_top c, size_rest c n d)

-- so many masks have 8 bytes for each of their words
pub masks-words : (w : Width) (n : ℕ) → n * size w ≡ n * words w * 8
masks-words w n = ap (λ (k : ℕ). n * k) (size-words w) ∙ sym (mul_assoc n (words w) 8)

-- and those are their bytes
pub length_masks : (w : Width) (n : ℕ) (xs : List ℕ) → length xs ≡ n * words w → length (laid 8 xs) ≡ n * size w
length_masks w n xs e = omega (arith, e, length-laid 8 xs, masks-words w n)

-- Bytes into which a whole image is written are the image.
use Rattle.std.proofs.Common.{◌≡◌, ℕ, List, length, take, ◌++◌, Option, Some, None, MatchOption, Result, Ok, Err, IsOk, refl, sym, ap, ◌∙◌, arith}
use Rattle.std.proofs.lemmas.List.{take-append-le}
use Rattle.bit_block.specs.declared.config.Config.{Config}
use Rattle.bitset_interface.specs.Source.{Source}
use Rattle.packing.specs.declared.Numbers.{Numbers}
use Rattle.packing.specs.Views.{set_source}
use Rattle.serialization.specs.Layout.{image_length}
use Rattle.serialization.specs.Writing.{length_of}
use Rattle.immutable_bitset.specs.Images.{Writes}
use Rattle.immutable_bitset.specs.declared.error.SerializeError.{SerializeError}
use Rattle.stylebook.specs.Images.{PackedIn, ImageOf}

-- the length of the image of a set with that configuration and those numbers
image_long : (m : Numbers) (config : Config) (n d : ℕ) → Some m.config ≡ Some config → n ≡ m.n → d ≡ m.d → image_length config n d ≡ length_of m
image_long m config n d c is_n is_d = let e : m.config ≡ config = cc in rw (sym e, is_n, is_d) refl

-- a buffer of the length of the image is the image once a set is written into it
pub image_written : (s : Source) (numbers : Option Numbers) (old words buffer wrote rest : List ℕ) (config : Config) (n d k : ℕ) (r : Result ℕ SerializeError)
    → PackedIn s numbers old words → (set_source numbers words).conf ≡ Some config → MatchOption numbers (n ≡ 0) (λ m. n ≡ m.n) → MatchOption numbers (d ≡ 0) (λ m. d ≡ m.d)
    → k ≡ image_length config n d → length buffer ≡ k → IsOk r → Writes numbers words r buffer wrote
    → ImageOf s (take k (wrote ++ rest))
image_written s None old words buffer wrote rest config n d k r p c is_n is_d e l ok w = absurd p
image_written s (Some m) old words buffer wrote rest config n d k (Err x) p c is_n is_d e l ok w = absurd cc
image_written s (Some m) old words buffer wrote rest config n d k (Ok len) p c is_n is_d e l ok w =
    let same : k ≡ len = e ∙ image_long m config n d c is_n is_d ∙ sym w.0 in
    (m, old, words, p, take-append-le k wrote rest (omega (arith, w.1.long, l)) ∙ ap (λ q. take q wrote) same ∙ w.1.front)

-- What loading an image into words gives for any reader, and how many bytes it takes.
use Rattle.std.specs.Prelude.{ℕ, cond, List, [], ◌∷◌, is_some, nat_lt}
use Rattle.bit_block.specs.declared.config.Config.{Config}
use Rattle.bitset_interface.specs.Refusals.{Refusal}
use Rattle.packing.specs.Packed.{needed}
use Rattle.reader.specs.Streams.{Stream, left}
use Rattle.serialization.specs.Image.{n_in, d_in, reading}
use Rattle.serialization.specs.Layout.{words, header_size, all_fields, image_length}
use Rattle.serialization.specs.Outcomes.{Outcome, short, refused_after, headed}
use Rattle.vetting.specs.Rules.{broken}

abbrev pub no_memory : ℕ → Refusal
no_memory w = record { number = 5; values = w ∷ [] }

-- how many words an image with the declared numbers needs, and how long it is
abbrev pub words_for : Config → List ℕ → ℕ
words_for c xs = needed (words c.level1) (words c.«data») (n_in xs) (d_in xs)

abbrev pub length_in : Config → List ℕ → ℕ
length_in c xs = image_length c (n_in xs) (d_in xs)

-- all was read: the rules decide
abbrev pub vetted : Config → List ℕ → Outcome
vetted c xs = record { refusal = broken c (reading c xs); taken = length_in c xs }

-- the header, then the words that are needed, then the rest of the image, then the rules
unfoldable pub outcome : Config → ℕ → Stream → Outcome
outcome c lent s =
    let xs : List ℕ = s.front.bytes in
    cond (is_some (headed s).refusal) (headed s)
    (cond (nat_lt lent (words_for c xs)) (refused_after header_size (no_memory (words_for c xs)))
    (cond (nat_lt (left s) (length_in c xs)) (short (all_fields c (n_in xs) (d_in xs)) s)
    (vetted c xs)))

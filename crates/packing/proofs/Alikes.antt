-- Sources that hold the same positions pack alike.
use Rattle.std.proofs.Common.{◌≡◌, ℕ, ◌/◌, Bool, cond, ltb, List, [], ◌++◌, Option, ap, ◌∙◌, ap₂}
use mathlib.Core.Path.{fun_ext}
use Rattle.bit_block.specs.declared.config.Config.{Config}
use Rattle.bit_block.specs.Ranges.{count}
use Rattle.bit_block.specs.Widths.{w1, wd}
use Rattle.bitset_interface.specs.Source.{Source, Lawful}
use Rattle.bitset_interface.proofs.Positions.{same_bits}
use Rattle.packing.specs.Gathered.{gather, words_of}
use Rattle.packing.specs.Packed.{held, full, row_count, block_count, level1, start_words}
use Rattle.packing.specs.Fills.{k1, kd}
use Rattle.packing.specs.Packs.{Alike}

-- the packing, by which blocks hold something and by the data bits
words : ℕ → ℕ → (ℕ → ℕ → Bool) → (ℕ → ℕ → ℕ → Bool) → List ℕ
words a b h f = level1 a h ++ start_words (level1 a h) ++ gather (λ i. gather (λ j. cond (h i j) (words_of b (f i j)) []) 256) 256

pub alike : (s : Source) → Lawful s → Alike s
unfolding held words
alike s ls t lt e h =
    let E : t.up2 ≡ s.up2 = fun_ext (λ i. fun_ext (λ j. fun_ext (λ k. same_bits t s lt ls e h i j k))) in
    let H : held t ≡ held s = ap (λ (f : ℕ → ℕ → ℕ → Bool). λ i j. ltb 0 (count (f i j) 256)) E in
    record {
      top = λ i. ap (λ (g : ℕ → ℕ → Bool). full g i) H;
      rows = ap row_count H;
      blocks = ap block_count H;
      words =
          ap₂ (λ (g : ℕ → ℕ → Bool) (f : ℕ → ℕ → ℕ → Bool). words (k1 t) (kd t) g f) H E
          ∙ ap (λ (o : Option Config). words (w1 o / 64) (wd o / 64) (held s) s.up2) e;
    }

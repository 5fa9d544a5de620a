-- The numbers of what a walk found are those of the source.
use Rattle.std.proofs.Common.{◌≡◌, ℕ, ◌/◌, Bool, Some, Option, ap, ◌∙◌, ap₂}
use mathlib.Core.Path.{fun_ext}
use Rattle.bit_block.specs.Raised.{raised}
use Rattle.bit_block.specs.declared.config.Config.{Config}
use Rattle.bit_block.specs.Widths.{bits, w0, w1, wd}
use Rattle.bitset_interface.specs.Source.{Source}
use Rattle.bit_block.specs.declared.mask.Mask.{Mask}
use Rattle.packing.specs.declared.Found.{Found}
use Rattle.packing.specs.declared.Numbers.{Numbers}
use Rattle.packing.specs.Starts0.{start0}
use Rattle.packing.specs.Packed.{held, needed}
use Rattle.packing.specs.Fills.{k1, kd, all_words}
use Rattle.packing.specs.Meaning.{k1of, kdof}
use Rattle.packing.specs.Measures.{Measured, NumbersFound}
use Rattle.packing.specs.Packs.{NumbersOf}

-- the widths, in words, of a set that has the numbers of s
pub k1_of : (s : Source) (m : Numbers) → NumbersOf s m → k1of m ≡ k1 s
unfolding k1of
k1_of s m N = ap (λ (o : Option Config). w1 o / 64) N.conf

pub kd_of : (s : Source) (m : Numbers) → NumbersOf s m → kdof m ≡ kd s
unfolding kdof
kd_of s m N = ap (λ (o : Option Config). wd o / 64) N.conf

module _ (s : Source) (c : Config) (is : Some c ≡ s.conf) (f : Found) (M : Measured (held s) f) where
  pub k1_is : bits c.level1 / 64 ≡ k1 s
  k1_is = ap (λ (o : Option Config). w1 o / 64) is

  pub kd_is : bits c.«data» / 64 ≡ kd s
  kd_is = ap (λ (o : Option Config). wd o / 64) is

  -- the words that are needed
  pub needed_is : needed (bits c.level1 / 64) (bits c.«data» / 64) f.n f.d ≡ all_words s
  needed_is = ap₂ (λ (i j : ℕ). needed i j f.n f.d) k1_is kd_is ∙ ap₂ (λ (n d : ℕ). needed (k1 s) (kd s) n d) M.rows_are M.blocks_are

  pub numbers_of : (m : Numbers) → NumbersFound f c m → NumbersOf s m
  numbers_of m e = record {
    conf = ap Some e.config ∙ is;
    top = λ i. ap (λ (x : Mask). raised x i) e.level0 ∙ M.top i;
    starts = λ q. e.starts q ∙ ap₂ (λ (g : ℕ → Bool) (o : Option Config). start0 g (w0 o) q) (fun_ext M.top) is;
    rows_are = e.n ∙ M.rows_are;
    blocks_are = e.d ∙ M.blocks_are;
  }

-- From a source's numbers and words to what they mean.
use Rattle.std.proofs.Common.{◌≡◌, ℕ, ◌*◌, ◌/◌, ◌<◌, ◌≤◌, Bool, true, ◌&&◌, ltb, List, length, take, Some, Option, sym, ap, ◌∙◌, subst, ap₂, arith}
use mathlib.Core.Path.{fun_ext}
use Rattle.std.proofs.lemmas.Bool.{ltb-true}
use Rattle.bit_block.specs.Raised.{raised}
use Rattle.bit_block.specs.Ranges.{count}
use Rattle.bit_block.specs.declared.config.Config.{Config}
use Rattle.bit_block.specs.Widths.{bits, w0, w1, wd, capacity, index0, index1, index_d}
use Rattle.bitset_interface.specs.Source.{Source, Lawful, holds}
use Rattle.packing.specs.declared.Found.{Found}
use Rattle.packing.specs.declared.Numbers.{Numbers}
use Rattle.packing.specs.Measures.{Measured, NumbersFound}
use Rattle.packing.specs.Starts0.{start0}
use Rattle.packing.specs.Packed.{held, blocks, full, packed, needed}
use Rattle.packing.specs.Fills.{k1, kd, all_words}
use Rattle.packing.specs.Meaning.{k1of, kdof, k1-whole, kd-whole, held_at, up_at, Wide, Starts0, RowsHeld, BlocksHeld}
use Rattle.packing.specs.Packs.{NumbersOf, WordsOf, PackedAs}
use Rattle.packing.specs.Views.{viewed}
use Rattle.packing.proofs.Held.{full_under}
use Rattle.packing.proofs.Numbering.{k1_of, kd_of, needed_is, numbers_of}
use Rattle.packing.proofs.Unpack.{rows_are, counts_are, starts_are, held_same, up_same}

module _ (s : Source) (law : Lawful s) (m : Numbers) (N : NumbersOf s m) (old new : List ℕ) (W : WordsOf s old new) (fits : all_words s ≤ length old) where
  top : raised m.level0 ≡ full (held s)
  top = fun_ext N.top

  e1 : k1of m ≡ k1 s
  e1 = k1_of s m N

  ed : kdof m ≡ kd s
  ed = kd_of s m N

  e_n : needed (k1of m) (kdof m) m.n m.d ≡ all_words s
  e_n = ap₂ (λ (i j : ℕ). needed i j m.n m.d) e1 ed ∙ ap₂ (λ (n d : ℕ). needed (k1 s) (kd s) n d) N.rows_are N.blocks_are

  front' : take (needed (k1of m) (kdof m) m.n m.d) new ≡ packed (k1of m) (kdof m) s
  front' = ap (λ (x : ℕ). take x new) e_n ∙ W.front ∙ sym (ap₂ (λ (i j : ℕ). packed i j s) e1 ed)

  fits' : needed (k1of m) (kdof m) m.n m.d ≤ length new
  fits' = omega (arith, e_n, fits, W.long)

  wide1 : w1 s.conf ≡ k1of m * 64
  wide1 = sym (ap w1 N.conf) ∙ (k1-whole m).0

  wided : wd s.conf ≡ kdof m * 64
  wided = sym (ap wd N.conf) ∙ (kd-whole m).0

  is_full : (i : ℕ) → raised m.level0 i ≡ true → full (held s) i ≡ true
  is_full i e = sym (N.top i) ∙ e

  wide_are : Wide m
  wide_are i e = omega (arith, full_under s law i (is_full i e), ap w0 N.conf)

  starts0_are : Starts0 m
  starts0_are q = N.starts q ∙ ap₂ (λ (f : ℕ → Bool) (o : Option Config). start0 f (w0 o) q) (sym top) (sym N.conf)

  same_held : (i : ℕ) → held_at m new i ≡ held s i
  same_held i = fun_ext (λ j. held_same s law m new top N.rows_are N.blocks_are wide1 wided (k1-whole m).1 (kd-whole m).1 front' fits' i j)

  same_up : (i j : ℕ) → up_at m new i j ≡ s.up2 i j
  same_up i j = fun_ext (λ t. up_same s law m new top N.rows_are N.blocks_are wide1 wided (k1-whole m).1 (kd-whole m).1 front' fits' i j t)

  -- at every position the same answer
  same_positions : (p : ℕ) → holds (viewed m new) p ≡ holds s p
  same_positions p =
      ap₂ (λ (o : Option Config) (f : ℕ → ℕ → ℕ → Bool). ltb p (capacity o) && f (index0 o p) (index1 o p) (index_d o p)) N.conf (fun_ext (λ i. fun_ext (λ j. same_up i j)))

  rows_held_lem : RowsHeld m new
  unfolding blocks
  rows_held_lem i e = subst (λ (g : ℕ → Bool). 0 < count g 256) (sym (same_held i)) (ltb-true 0 (count (held s i) 256) (is_full i e))

  blocks_held_lem : BlocksHeld m new
  unfolding held
  blocks_held_lem i j e =
      let l : held s i j ≡ true = sym (ap (λ (g : ℕ → Bool). g j) (same_held i)) ∙ e in
      subst (λ (g : ℕ → Bool). 0 < count g 256) (sym (same_up i j)) (ltb-true 0 (count (s.up2 i j) 256) l)

  pub packed_as : PackedAs s m old new
  packed_as = record {
    numbers = N;
    words = W;
    sound = record {
      rows = rows_are s law m new top N.rows_are N.blocks_are wide1 wided (k1-whole m).1 (kd-whole m).1 front' fits';
      wide = wide_are;
      starts0 = starts0_are;
      rows_held = rows_held_lem;
      starts = starts_are s law m new top N.rows_are N.blocks_are wide1 wided (k1-whole m).1 (kd-whole m).1 front' fits';
      counts = counts_are s law m new top N.rows_are N.blocks_are wide1 wided (k1-whole m).1 (kd-whole m).1 front' fits';
      blocks_held = blocks_held_lem;
    };
    means = λ i j t. ap (λ (g : ℕ → Bool). g t) (same_up i j);
    positions = same_positions;
  }

-- the numbers of what was found in s, and words filled with s
pub packed_found : (s : Source) → Lawful s → (c : Config) → Some c ≡ s.conf → (f : Found) → Measured (held s) f → (m : Numbers) → NumbersFound f c m
    → {old new : List ℕ} → WordsOf s old new → needed (bits c.level1 / 64) (bits c.«data» / 64) f.n f.d ≤ length old → PackedAs s m old new
packed_found s law c is f M m e {old} {new} W fits = packed_as s law m (numbers_of s c is f M m e) old new W (omega (arith, needed_is s c is f M, fits))

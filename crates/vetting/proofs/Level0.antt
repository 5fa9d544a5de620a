-- A level-0 mask counts, and has the starts, of the words that are stored.
use Rattle.std.proofs.Common.{◌≡◌, ℕ, Bool, List, ap₂}
use mathlib.Core.Path.{fun_ext}
use Rattle.bit_block.specs.Raised.{raised}
use Rattle.bit_block.specs.Ranges.{count}
use Rattle.bit_block.specs.Widths.{bits}
use Rattle.bit_block.specs.declared.config.Config.{Config}
use Rattle.bit_block.specs.declared.mask.Mask.{Mask}
use Rattle.packing.specs.Starts0.{start0}
use Rattle.vetting.specs.Rules.{bit_in}

-- what a level-0 mask counts
pub same_count : (m : Mask) (ws : List ℕ) (c k : Config) → ((t : ℕ) → raised m t ≡ bit_in ws t) → c ≡ k
    → count (raised m) (bits c.level0) ≡ count (bit_in ws) (bits k.level0)
same_count m ws c k e f = ap₂ (λ (g : ℕ → Bool) (x : Config). count g (bits x.level0)) (fun_ext e) f

-- its starts
pub same_starts : (m : Mask) (ws : List ℕ) (c k : Config) → ((t : ℕ) → raised m t ≡ bit_in ws t) → c ≡ k
    → (q : ℕ) → start0 (raised m) (bits c.level0) q ≡ start0 (bit_in ws) (bits k.level0) q
same_starts m ws c k e f q = ap₂ (λ (g : ℕ → Bool) (x : Config). start0 g (bits x.level0) q) (fun_ext e) f

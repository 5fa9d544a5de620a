-- The words that stand in masks of one width.
use Rattle.std.specs.Prelude.{ℕ, List}
use Rattle.serialization.specs.Stored.{Stored}
use Rattle.vetting.specs.declared.rules.Level.{Level}
use Rattle.vetting.specs.declared.rules.Level.TheVariants.{Masks, Blocks}

-- those of level 1, or those of the blocks
abbrev pub words_in : Level → Stored → List ℕ
words_in Masks r = r.rows
words_in Blocks r = r.blocks

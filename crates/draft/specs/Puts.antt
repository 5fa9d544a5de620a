-- What setting a range of a draft's positions gives and leaves.
use Rattle.std.specs.Prelude.{◌≡◌, ℕ, Bool, List, Result, Option, length}
use Rattle.std.proofs.Common.{MutBor}
use Rattle.bit_block.specs.declared.config.Config.{Config}
use Rattle.bitset_interface.specs.Refusals.{unless}
use Rattle.draft.specs.Drafts.{fitting, Sets, good_range}
use Rattle.draft.specs.Refusals.{refusal, bad_range}
use Rattle.draft.specs.declared.DraftError.{DraftError}
use Rattle.draft.specs.declared.DraftOver.{DraftOver}

-- the configuration that a draft has: void over too few words
abbrev pub own : DraftOver (MutBor (List ℕ)) → Option Config
own d = fitting d.config (length d.words.now)

-- a draft of the same configuration, over words of the same lender
pub record SameLoan (old new : DraftOver (MutBor (List ℕ))) : Type 0 where
  pub config : new.config ≡ old.config
  pub lender : new.words.ghost_name ≡ old.words.ghost_name

-- from..to is set to `on`, and nothing else; refused as a bad range where it is none of the draft's, and then nothing is set
pub record Puts (on : Bool) (from to : ℕ) (old : DraftOver (MutBor (List ℕ))) (r : Result Unit DraftError) (new : DraftOver (MutBor (List ℕ))) : Type 0 where
  pub refused : refusal r ≡ unless (good_range (own old) from to) bad_range
  pub sets : Sets on (own old) from to old.words.now new.words.now
  pub loan : SameLoan old new

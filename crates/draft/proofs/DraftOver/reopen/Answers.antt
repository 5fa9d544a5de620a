use Rattle.std.proofs.Common.{length, refl}
use Rattle.draft.specs.Drafts.{fitting}
use Rattle.draft.proofs.Marked.{marked-holds}
use Rattle.draft.proofs.DraftOver.reopen.Goals as goal

pub returns : goal.returns
returns g c = record {
  words = refl;
  config = refl;
  held = marked-holds (fitting c.args.config (length (g.W.AsSlice.items c.args.words))) (g.W.AsSlice.items c.args.words);
}

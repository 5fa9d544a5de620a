use Rattle.std.proofs.Common.{◌≡◌}
use Rattle.certificate.proofs.Marks.{Part}
use Rattle.certificate.proofs.runs.mark_all.Given as goal

-- what the walk has passed is marked
abbrev pub invariant-loop-run : goal.invariant-loop-run
invariant-loop-run g l =
    (goal.iterator-loop-run g).can_next l.run-iterator
    × (goal.iterator-loop-run g).is_finite l.run-iterator
    × (l.run-iterator.source.now ≡ l.s)
    × (l.draft.config ≡ l.initial.draft.config)
    × (l.draft.words.ghost_name ≡ l.initial.draft.words.ghost_name)
    × Part (g.S.LevelMasks.means l.s) l.run-iterator.at l.initial.draft.words.now l.draft.words.now

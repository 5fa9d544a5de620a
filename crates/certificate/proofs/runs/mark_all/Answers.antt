use Rattle.std.proofs.Common.{◌≡◌, ◌≤◌, true, length, ◌∙◌, arith}
use Rattle.std.proofs.lemmas.Bool.{le-leb}
use Rattle.bit_block.specs.Widths.{capacity}
use Rattle.draft.specs.Drafts.{fitting, good_range}
use Rattle.certificate.specs.Runs.{First}
use Rattle.certificate.proofs.Marks.{part_more, part_all, run_good}
use Rattle.certificate.proofs.runs.mark_all.Goals as goal
use Rattle.certificate.proofs.runs.mark_all.Goals.{In-Some}
use Rattle.bitset_interface.specs.Source.{holds}

-- the run of a turn is the first that the source holds from where the walk stood
first : (g : _) (c : In-Some g) → First (holds (g.S.LevelMasks.means c.args.s.now)) c.loop-run.run-iterator.at c.in-Some.run'
first g c = rw c.loop-run.invariant.2 at c.in-Some.ensures.steps.first

-- and a good range of the draft
good : (g : _) (c : In-Some g) → good_range (fitting c.loop-run.draft.config (length c.loop-run.draft.words.now)) c.in-Some.run'.from c.in-Some.run'.to ≡ true
good g c =
    run_good (g.S.LevelMasks.means c.args.s.now) (g.S.LevelMasks.lawful c.args.s.now) c.loop-run.run-iterator.at c.in-Some.run' (first g c)
    c.loop-run.draft.config c.args.draft.now.config c.loop-run.draft.words.now c.args.draft.now.words.now c.loop-run.invariant.3 c.loop-run.invariant.5.long
    (omega (arith, c.if-capacity_of.false, c.capacity_of.ensures, c.capacity_of-2.ensures))

pub returns-in_err-mark : goal.returns-in_err-mark
returns-in_err-mark g c = let refused = rw (good g (goal.at.returns-in_err-mark g c).In-Some) at c.in_err-mark.ensures.refused in absurd cc

pub loop-run-preserved : goal.loop-run-preserved
loop-run-preserved g c =
    let turn = (goal.at.loop-run-preserved g c).In-Some in (
      tt,
      tt,
      cc,
      c.mark.ensures.loan.config ∙ c.loop-run.invariant.3,
      c.mark.ensures.loan.lender ∙ c.loop-run.invariant.4,
      rw c.in-Some.ensures.steps.reached
          (part_more (g.S.LevelMasks.means c.args.s.now) c.args.draft.now.words.now c.loop-run.run-iterator.at c.in-Some.run' c.loop-run.draft.words.now c.mark.new.self.words.now
          (first g turn) c.loop-run.invariant.5 (rw (good g turn) at c.mark.ensures.sets)),
    )

pub returns-clause-added : goal.returns-clause-added
returns-clause-added g c =
    let fits : capacity (g.S.LevelMasks.means c.args.s.now).conf ≤ capacity (fitting c.args.draft.now.config (length c.args.draft.now.words.now)) = omega (arith, c.if-capacity_of.false) in
    rw (le-leb _ _ fits)
    (part_all (g.S.LevelMasks.means c.args.s.now) c.args.draft.now.words.now c.loop-run.run-iterator.at c.loop-run.draft.words.now
    (rw c.loop-run.invariant.2 at c.in-None.ensures.steps.first) c.loop-run.invariant.5)

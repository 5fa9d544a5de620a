use Rattle.std.proofs.Common.{◌≡◌, map, ◌++◌, length}
use Rattle.commands.specs.Lines.{words_of}
use Rattle.commands.proofs.line.words.Given as goal

-- the words found, and those of the rest
abbrev pub invariant-loop-start : goal.invariant-loop-start
invariant-loop-start l = map (λ w. w.now) l.found.items ++ words_of l.rest ≡ words_of l.text

abbrev pub decreases-loop-start : goal.decreases-loop-start
decreases-loop-start l = length l.rest

use Rattle.std.proofs.Common.{length}
use Rattle.commands.proofs.options.+more_options.Given as goal

-- proposed from what the function passes where it calls itself
abbrev pub decreases-more_options : goal.decreases-more_options
decreases-more_options l = length l.words.now

-- Each turn leaves less of the line. Assumes nothing.
use Rattle.std.proofs.Common.{length}
use Rattle.trial.proofs.line.read.Given as goal

abbrev pub decreases-loop-rest : goal.decreases-loop-rest
decreases-loop-rest l = length l.rest

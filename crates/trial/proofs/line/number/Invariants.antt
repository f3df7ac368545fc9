-- What is left is no longer than the text. Assumes nothing.
use Rattle.std.proofs.Common.{◌≤◌, length}
use Rattle.trial.proofs.line.number.Given as goal

abbrev pub invariant-loop-left : goal.invariant-loop-left
invariant-loop-left l = length l.left ≤ length l.text

abbrev pub decreases-loop-left : goal.decreases-loop-left
decreases-loop-left l = length l.left

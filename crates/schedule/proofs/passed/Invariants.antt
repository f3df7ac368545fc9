-- The end sought is the same from each place passed, with the blocks open there.
use Rattle.std.proofs.Common.{◌-◌, ◌≡◌, ◌≤◌, length}
use Rattle.schedule.specs.Text.{end_of}
use Rattle.schedule.proofs.passed.Given as goal

abbrev pub invariant-loop-i : goal.invariant-loop-i
invariant-loop-i l = (l.i ≤ length l.s) × (l.opens ≤ l.i) × (end_of l.s l.i l.opens ≡ end_of l.s l.at 0)

abbrev pub decreases-loop-i : goal.decreases-loop-i
decreases-loop-i l = length l.s - l.i

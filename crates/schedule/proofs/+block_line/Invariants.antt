-- The remaining depth and the remaining bytes fall (Falls). What was read of a block and what is left of it make the whole.
use Rattle.std.proofs.Common.{length, ◌-◌, ◌≡◌, ◌+◌, ◌≤◌}
use Rattle.schedule.specs.Text.{block_at, tell}
use Rattle.schedule.proofs.Falls.{remaining}
use Rattle.schedule.proofs.Turns.{joined}
use Rattle.schedule.proofs.+block_line.Given as goal

abbrev pub decreases-block : goal.decreases-block
decreases-block l = remaining l.s.now l.at l.depth + 1

abbrev pub decreases-line : goal.decreases-line
decreases-line l = remaining l.s.now l.at l.depth

abbrev pub invariant-block-loop-got : goal.invariant-block-loop-got
invariant-block-loop-got l =
    (l.got.next ≤ length l.s) × (l.got.calls ≤ 100001) × (joined l.got (tell (block_at l.s l.got.next l.depth)) ≡ tell (block_at l.s l.at l.depth)) × (l.at ≤ l.got.next)

abbrev pub decreases-block-loop-got : goal.decreases-block-loop-got
decreases-block-loop-got l = length l.s - l.got.next

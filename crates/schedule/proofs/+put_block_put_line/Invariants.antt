-- The remaining depth and the remaining bytes fall (Falls). What is written of a block's calls and what is left of them make the whole.
use Rattle.std.proofs.Common.{length, ◌-◌, ◌+◌, ◌≤◌}
use Rattle.schedule.specs.Text.{block_at}
use Rattle.schedule.proofs.Falls.{remaining}
use Rattle.schedule.proofs.Puts.{Going}
use Rattle.schedule.proofs.+put_block_put_line.Given as goal

abbrev pub decreases-put_block : goal.decreases-put_block
decreases-put_block l = remaining l.s.now l.at l.depth + 1

abbrev pub decreases-put_line : goal.decreases-put_line
decreases-put_line l = remaining l.s.now l.at l.depth

abbrev pub invariant-put_block-loop-t : goal.invariant-put_block-loop-t
invariant-put_block-loop-t l = (l.p.next ≤ length l.s) × Going l.s (block_at l.s l.at l.depth) (block_at l.s l.p.next l.depth) l.fn.t l.t l.p.written × (l.at ≤ l.p.next)

abbrev pub decreases-put_block-loop-t : goal.decreases-put_block-loop-t
decreases-put_block-loop-t l = length l.s - l.p.next

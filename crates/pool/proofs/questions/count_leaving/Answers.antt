-- `pool::questions::count_leaving` meets its contract: a loop that counts one more. Assumes nothing.
use Rattle.std.proofs.Common.{rules}
use Rattle.basics.proofs.Count.{tallies}
use Rattle.pool.proofs.questions.count_leaving.Goals as goal

pub loop-state-init : goal.loop-state-init
loop-state-init c = search (rules, tallies)

pub loop-state-preserved : goal.loop-state-preserved
loop-state-preserved c = rw c.from-n.ensures (search (rules, tallies))

-- `pool::lists::leaving` meets its contract: one id more has left at each turn. Assumes nothing.
use Rattle.pool.proofs.GiveUps.{left_first_none, left_first_again}
use Rattle.pool.proofs.lists.leaving.Goals as goal

pub loop-id-init : goal.loop-id-init
loop-id-init c = left_first_none _ c.args.ids.now

pub loop-id-preserved : goal.loop-id-preserved
loop-id-preserved c = left_first_again c.args.states.now c.args.ids.now c.loop-id.id-index c.loop-id.invariant c.left.ensures

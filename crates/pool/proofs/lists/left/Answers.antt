-- `pool::lists::left` meets its contract. Assumes nothing.
use Rattle.std.proofs.Common.{arith}
use Rattle.idset.proofs.Members.{too_low, too_high}
use Rattle.pool.proofs.GiveUps.{left_none, left_some}
use Rattle.pool.proofs.lists.left.Goals as goal

pub returns-then-id-lt1 : goal.returns-then-id-lt1
returns-then-id-lt1 c = left_none _ _ (too_low (omega arith))

pub returns-in-1-to-256 : goal.returns-in-1-to-256
returns-in-1-to-256 c = left_some c.args.states.now c.args.id (omega arith) (omega arith)

pub returns-else-id-lt257 : goal.returns-else-id-lt257
returns-else-id-lt257 c = left_none _ _ (too_high (omega arith))

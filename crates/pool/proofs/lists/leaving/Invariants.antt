-- The ids before this one have left.
use Rattle.std.proofs.Common.{◌≡◌}
use Rattle.pool.proofs.GiveUps.{left_first}
use Rattle.pool.proofs.lists.leaving.Given as goal

abbrev pub invariant-loop-id : goal.invariant-loop-id
invariant-loop-id l = l.states ≡ left_first l.initial.states l.ids l.id-index

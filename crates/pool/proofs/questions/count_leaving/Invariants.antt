-- The count so far. Assumes nothing.
use Rattle.std.proofs.Common.{◌≡◌, ◌≤◌, eqb, get_or}
use Rattle.basics.specs.Below.{count_below}
use Rattle.pool.proofs.questions.count_leaving.Given as goal

abbrev pub invariant-loop-state : goal.invariant-loop-state
invariant-loop-state l = (l.n ≤ l.state-index) × (l.n ≡ count_below l.state-index (λ j. eqb (get_or l.states j 0) 2))

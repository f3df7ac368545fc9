-- What each loop of `handback::hand` keeps: the members passed so far are free and stand in the list, ascending from its start. Assumes nothing.
use Rattle.std.proofs.Common.{ℕ, ◌≡◌, ◌+◌, ◌*◌, ◌≤◌, get_or}
use Rattle.idset.specs.Members.{marks_from, marks_left}
use Rattle.pool.proofs.Handed.{Handing}
use Rattle.pool.proofs.handback.hand.Given as goal

abbrev pub invariant-loop-mark : goal.invariant-loop-mark
invariant-loop-mark l =
    (goal.iterator-loop-mark).can_next l.mark-iterator × (goal.iterator-loop-mark).is_finite l.mark-iterator
    × ((from : ℕ) × (from ≤ 64) × (marks_left l.mark-iterator ≡ marks_from (get_or l.fn.s.words l.i 0) from)
    × Handing l.fn.s l.fn.states l.fn.out l.states l.out l.n (64 * l.i + from))

abbrev pub invariant-loop-i : goal.invariant-loop-i
invariant-loop-i l = Handing l.fn.s l.fn.states l.fn.out l.states l.out l.n (64 * l.i)

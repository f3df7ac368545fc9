-- What each loop of `handback::all_leaving` keeps: `ok` says whether the members passed so far are all leaving. Assumes nothing.
use Rattle.std.proofs.Common.{ℕ, ◌≡◌, ◌+◌, ◌*◌, ◌≤◌, get_or}
use Rattle.basics.specs.Below.{all_below}
use Rattle.idset.specs.Members.{marks_from, marks_left}
use Rattle.pool.proofs.Handed.{leaves}
use Rattle.pool.proofs.handback.all_leaving.Given as goal

abbrev pub invariant-loop-mark : goal.invariant-loop-mark
invariant-loop-mark l =
    (goal.iterator-loop-mark).can_next l.mark-iterator × (goal.iterator-loop-mark).is_finite l.mark-iterator
    × ((from : ℕ) × (from ≤ 64) × (marks_left l.mark-iterator ≡ marks_from (get_or l.fn.s.words l.i 0) from)
    × (l.ok ≡ all_below (64 * l.i + from) (leaves l.fn.s l.states)))

abbrev pub invariant-loop-i : goal.invariant-loop-i
invariant-loop-i l = l.ok ≡ all_below (64 * l.i) (leaves l.fn.s l.states)

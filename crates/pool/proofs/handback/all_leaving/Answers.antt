-- `pool::handback::all_leaving` meets its contract: the walk over a word comes to each member in it. Assumes nothing.
use Rattle.std.proofs.Common.{◌≡◌, ◌+◌, ◌*◌, sym, ◌∙◌, arith, rules}
use Rattle.basics.proofs.All.{all_none}
use Rattle.idset.proofs.Walk.{mark_first, marks_done}
use Rattle.pool.proofs.Handed.{leaves_passed, leaves_met}
use Rattle.pool.proofs.handback.all_leaving.Goals as goal

pub loop-i-init : goal.loop-i-init
loop-i-init c = all_none _

pub bounds-states-i : goal.bounds-states-i
bounds-states-i c =
    let (from, _, left, _) = c.loop-mark.invariant.2 in
    (mark_first c.args.s c.loop-i.i from (search rules) (sym left ∙ c.in-Some.ensures.steps)).2.top

pub loop-mark-preserved : goal.loop-mark-preserved
loop-mark-preserved c =
    let (from, _, left, so_far) = c.loop-mark.invariant.2 in
    let (below, passed, met, rest) = mark_first c.args.s c.loop-i.i from (search rules) (sym left ∙ c.in-Some.ensures.steps) in
    let q : 64 * c.loop-i.i + (c.in-Some.mark + 1) ≡ 64 * c.loop-i.i + c.in-Some.mark + 1 = omega arith in
    (tt, tt, (c.in-Some.mark + 1, omega (arith, below), rest, rw q (leaves_met c.args.states.now met (leaves_passed c.args.states.now passed so_far))))

pub loop-i-preserved : goal.loop-i-preserved
loop-i-preserved c =
    let (from, top, left, so_far) = c.loop-mark.invariant.2 in
    leaves_passed c.args.states.now (marks_done c.args.s c.loop-i.i from (search rules) top (sym left ∙ c.in-None.ensures.steps.0)) so_far

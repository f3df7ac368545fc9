-- `pool::handback::hand` meets its contract: the walk over a word comes to each member in it, which is handed back. Assumes nothing.
use Rattle.std.proofs.Common.{◌≡◌, ◌+◌, ◌*◌, sym, ◌∙◌, arith, rules}
use Rattle.idset.proofs.Walk.{mark_first, marks_done}
use Rattle.pool.proofs.Handed.{handing_none, handing_passed, handing_room, handing_met, handing_all}
use Rattle.pool.proofs.handback.hand.Goals as goal

pub loop-i-init : goal.loop-i-init
loop-i-init c = handing_none _ _ _

pub bounds-states-k : goal.bounds-states-k
bounds-states-k c =
    let (from, _, left, _) = c.loop-mark.invariant.2 in
    (mark_first c.args.s c.loop-i.i from (search rules) (sym left ∙ c.in-Some.ensures.steps)).2.top

pub overflow_cast-out : goal.overflow_cast-out
overflow_cast-out c =
    let (from, _, left, _) = c.loop-mark.invariant.2 in
    let top = (mark_first c.args.s c.loop-i.i from (search rules) (sym left ∙ c.in-Some.ensures.steps)).2.top in
    search rules

pub bounds-out-n : goal.bounds-out-n
bounds-out-n c =
    let (from, _, left, handing) = c.loop-mark.invariant.2 in
    let (below, passed, met, rest) = mark_first c.args.s c.loop-i.i from (search rules) (sym left ∙ c.in-Some.ensures.steps) in
    omega (arith, handing_room met (handing_passed passed handing), handing.long)

pub loop-mark-preserved : goal.loop-mark-preserved
loop-mark-preserved c =
    let (from, _, left, handing) = c.loop-mark.invariant.2 in
    let (below, passed, met, rest) = mark_first c.args.s c.loop-i.i from (search rules) (sym left ∙ c.in-Some.ensures.steps) in
    let here = handing_passed passed handing in
    let q : 64 * c.loop-i.i + (c.in-Some.mark + 1) ≡ 64 * c.loop-i.i + c.in-Some.mark + 1 = omega arith in
    (tt, tt, (c.in-Some.mark + 1, omega (arith, below), rest, rw q (handing_met met (omega (arith, handing_room met here, here.long)) here)))

pub loop-i-preserved : goal.loop-i-preserved
loop-i-preserved c =
    let (from, top, left, handing) = c.loop-mark.invariant.2 in
    handing_passed (marks_done c.args.s c.loop-i.i from (search rules) top (sym left ∙ c.in-None.ensures.steps.0)) handing

pub returns-clause-freed : goal.returns-clause-freed
returns-clause-freed c =
    let q : 64 * c.loop-i.i ≡ 256 = omega arith in
    (handing_all (rw q at c.loop-i.invariant)).0

pub returns-clause-list : goal.returns-clause-list
returns-clause-list c =
    let q : 64 * c.loop-i.i ≡ 256 = omega arith in
    (handing_all (rw q at c.loop-i.invariant)).1

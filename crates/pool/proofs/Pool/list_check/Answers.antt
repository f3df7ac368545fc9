-- `pool::Pool::list_check` meets its contract. Assumes nothing.
use Rattle.std.proofs.Common.{ap, ◌∙◌, rules}
use Rattle.idset.proofs.Marking.{met_none, met_alone, met_again}
use Rattle.pool.specs.Answers.{verdict}
use Rattle.pool.proofs.Told.{same_refusal, check_on, fine_by, refuse_by}
use Rattle.pool.proofs.Firsts.{first_none, first_again, first_stop}
use Rattle.pool.proofs.GiveUps.{entry_stops, entry_repeats, entry_unserved, entry_passes}
use Rattle.pool.proofs.Pool.list_check.Goals as goal

pub loop-place-init : goal.loop-place-init
loop-place-init c = (first_none _, met_none c.args.ids.now c.empty-met.ensures)

pub returns-in_err-k-clause-check : goal.returns-in_err-k-clause-check
returns-in_err-k-clause-check c =
    let found = entry_stops c.args.self.now c.args.ids.now c.loop-place.place (refuse_by c.id_check.result c.id_check.ensures.check c.in_err-k.was) in
    check_on _ c.in_err-k.was c.from_residual.ensures.1 (ap verdict c.in_err-k.was ∙ first_stop _ c.loop-place.place _ _ _ c.loop-place.invariant.0 found (search rules))

pub returns-then-mark-clause-check : goal.returns-then-mark-clause-check
returns-then-mark-clause-check c =
    let named = fine_by c.id_check.result c.id_check.ensures.check c.in_ok-k.was in
    let found = entry_repeats c.args.self.now c.args.ids.now c.loop-place.place c.requires c.loop-place.invariant.1 c.mark.ensures.met named c.if-mark.true in
    same_refusal _ _ _ _ c.at.ensures.refusal c.at.ensures.place ∙ first_stop _ c.loop-place.place _ _ _ c.loop-place.invariant.0 found (search rules)

pub returns-then-self-k-ne1-clause-check : goal.returns-then-self-k-ne1-clause-check
returns-then-self-k-ne1-clause-check c =
    let named = fine_by c.id_check.result c.id_check.ensures.check c.in_ok-k.was in
    let found =
    entry_unserved c.args.self.now c.args.ids.now c.loop-place.place c.requires c.loop-place.invariant.1 c.mark.ensures.met named c.if-mark.false
    c.in_ok-k.ensures.entry c.if-self-k-ne1.true in
    same_refusal _ _ _ _ c.at-then-self-k-ne1.ensures.refusal c.at-then-self-k-ne1.ensures.place
    ∙ first_stop _ c.loop-place.place _ _ _ c.loop-place.invariant.0 found (search rules)

pub loop-place-preserved : goal.loop-place-preserved
loop-place-preserved c =
    let ids = c.args.ids.now in
    let k = c.loop-place.place in
    let met = c.loop-place.invariant.1 in
    let named = fine_by c.id_check.result c.id_check.ensures.check c.in_ok-k.was in
    let found =
    entry_passes c.args.self.now ids k c.requires met c.mark.ensures.met named c.if-mark.false c.in_ok-k.ensures.entry c.if-self-k-ne1.false in
    (first_again _ k c.loop-place.invariant.0 found, met_again ids k met (c.mark.ensures.marked (met_alone ids k met)))

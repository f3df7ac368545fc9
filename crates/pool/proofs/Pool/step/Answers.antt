-- `pool::Pool::step` meets its contract: what the check found, and the line of the label that the worker stands at. Assumes nothing.
use Rattle.std.proofs.Common.{refl, sym, ap, ◌∙◌}
use Rattle.pool.specs.Answers.{verdict}
use Rattle.pool.specs.Steps.{advance_of, list_after}
use Rattle.pool.proofs.Told.{after_on, after_stops, same_refused, fine_by, refuse_by}
use Rattle.pool.proofs.Back.{list_stops}
use Rattle.pool.proofs.Dispatch.{stopped, idle_stops, here_stands, line_checked}
use Rattle.pool.proofs.Pool.step.Goals as goal

pub returns-in_err-k-clause-outcome : goal.returns-in_err-k-clause-outcome
unfolding advance_of
returns-in_err-k-clause-outcome c =
    let found = refuse_by c.worker_check.result c.worker_check.ensures.check c.in_err-k.was in
    after_on _ c.in_err-k.was c.from_residual.ensures.1 (ap verdict c.in_err-k.was ∙ sym (stopped c.args.self.now c.args.w c.args.out.now found)) c.args.self.now _

pub returns-in_err-k-clause-list : goal.returns-in_err-k-clause-list
unfolding list_after
returns-in_err-k-clause-list c =
    list_stops _ _ (stopped c.args.self.now c.args.w c.args.out.now (refuse_by c.worker_check.result c.worker_check.ensures.check c.in_err-k.was))

pub returns-then-self-k-eq0-clause-outcome : goal.returns-then-self-k-eq0-clause-outcome
unfolding advance_of
returns-then-self-k-eq0-clause-outcome c =
    let named = fine_by c.worker_check.result c.worker_check.ensures.check c.in_ok-k.was in
    same_refused _ 5 _ 0 _ _ c.at.ensures.refusal c.at.ensures.place refl
    ∙ after_stops _ _ (idle_stops c.args.self.now c.args.w c.args.out.now named (rw c.in_ok-k.ensures.entry at c.if-self-k-eq0.true))

pub returns-then-self-k-eq0-clause-list : goal.returns-then-self-k-eq0-clause-list
unfolding list_after
returns-then-self-k-eq0-clause-list c =
    let named = fine_by c.worker_check.result c.worker_check.ensures.check c.in_ok-k.was in
    list_stops _ _ (idle_stops c.args.self.now c.args.w c.args.out.now named (rw c.in_ok-k.ensures.entry at c.if-self-k-eq0.true))

pub line-requires : goal.line-requires
line-requires c =
    let named = fine_by c.worker_check.result c.worker_check.ensures.check c.in_ok-k.was in
    rw c.in_ok-k.ensures.entry (here_stands c.args.self.now c.args.w c.args.out.now named (rw c.in_ok-k.ensures.entry at c.if-self-k-eq0.false))

pub returns-clause-outcome : goal.returns-clause-outcome
unfolding advance_of
returns-clause-outcome c =
    let named = fine_by c.worker_check.result c.worker_check.ensures.check c.in_ok-k.was in
    rw (line_checked c.args.self.now c.args.w c.args.out.now named (rw c.in_ok-k.ensures.entry at c.if-self-k-eq0.false))
    (rw c.in_ok-k.ensures.entry at c.line.ensures.outcome)

pub returns-clause-list : goal.returns-clause-list
unfolding list_after
returns-clause-list c =
    let named = fine_by c.worker_check.result c.worker_check.ensures.check c.in_ok-k.was in
    rw (line_checked c.args.self.now c.args.w c.args.out.now named (rw c.in_ok-k.ensures.entry at c.if-self-k-eq0.false))
    (rw c.in_ok-k.ensures.entry at c.line.ensures.list)

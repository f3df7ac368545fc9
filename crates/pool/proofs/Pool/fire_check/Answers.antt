-- `pool::Pool::fire_check` meets its contract where a check that it calls refuses. Assumes nothing.
use Rattle.pool.specs.Checks.{fire_check}
use Rattle.pool.proofs.Told.{first_on, first_fine, fine_by}
use Rattle.pool.proofs.Checked.{few_guards}
use Rattle.pool.proofs.Pool.fire_check.Goals as goal

pub returns-in_err-k-clause-check : goal.returns-in_err-k-clause-check
unfolding fire_check
returns-in_err-k-clause-check c = first_on _ c.in_err-k.was c.from_residual.ensures.1 c.begin_check.ensures.check _

pub guard_check-requires : goal.guard_check-requires
guard_check-requires c = few_guards c.args.self.now c.args.w (fine_by c.begin_check.result c.begin_check.ensures.check c.in_ok-k.was)

pub returns-in_err-i-clause-check : goal.returns-in_err-i-clause-check
unfolding fire_check
returns-in_err-i-clause-check c =
    first_fine c.begin_check.result _ _ _ c.begin_check.ensures.check c.in_ok-k.was
    (first_on _ c.in_err-i.was c.from_residual-in_err-i.ensures.1 c.guard_check.ensures.check _)

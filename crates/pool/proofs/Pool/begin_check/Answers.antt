-- `pool::Pool::begin_check` meets its contract where the worker's check refuses. Assumes nothing.
use Rattle.pool.specs.Checks.{begin_check}
use Rattle.pool.proofs.Told.{first_on}
use Rattle.pool.proofs.Pool.begin_check.Goals as goal

pub returns-in_err-k-clause-check : goal.returns-in_err-k-clause-check
unfolding begin_check
returns-in_err-k-clause-check c = first_on _ c.in_err-k.was c.from_residual.ensures.1 c.worker_check.ensures.check _

-- `pool::Pool::begin_hire` meets its contract where its check refuses. Assumes nothing.
use Rattle.pool.specs.Begins.{hire_of}
use Rattle.pool.proofs.Told.{after_on}
use Rattle.pool.proofs.Pool.begin_hire.Goals as goal

pub returns-in_err-k : goal.returns-in_err-k
unfolding hire_of
returns-in_err-k c = after_on _ c.in_err-k.was c.from_residual.ensures.1 c.begin_check.ensures.check c.args.self.now _

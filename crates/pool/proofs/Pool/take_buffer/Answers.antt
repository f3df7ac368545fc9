-- `pool::Pool::take_buffer` meets its contract where its check refuses. Assumes nothing.
use Rattle.pool.specs.Begins.{take_of}
use Rattle.pool.proofs.Told.{after_on}
use Rattle.pool.proofs.Pool.take_buffer.Goals as goal

pub returns-in_err-k : goal.returns-in_err-k
unfolding take_of
returns-in_err-k c = after_on _ c.in_err-k.was c.from_residual.ensures.1 c.take_check.ensures.check c.args.self.now _

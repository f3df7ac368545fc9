-- `pool::Pool::set_size` meets its contract where its check refuses. Assumes nothing.
use Rattle.pool.specs.Questions.{set_size_of}
use Rattle.pool.proofs.Told.{answer_into}
use Rattle.pool.proofs.Pool.set_size.Goals as goal

pub returns-in-Err : goal.returns-in-Err
unfolding set_size_of
returns-in-Err c = answer_into c.worker_check.result _ _ _ c.in-Err.is c.worker_check.ensures.check c.from.ensures

-- `pool::Pool::leaving_count` meets its contract where its check refuses. Assumes nothing.
use Rattle.pool.specs.Questions.{leaving_count_of}
use Rattle.pool.proofs.Told.{answer_into}
use Rattle.pool.proofs.Pool.leaving_count.Goals as goal

pub returns-in-Err : goal.returns-in-Err
unfolding leaving_count_of
returns-in-Err c = answer_into c.sound_check.result _ _ _ c.in-Err.is c.sound_check.ensures c.from.ensures

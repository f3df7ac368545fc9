-- `pool::Pool::audit` meets its contract: a sound record has at most 256 buffers. Assumes nothing.
use Rattle.pool.specs.Questions.{audit_of}
use Rattle.pool.proofs.Told.{fine_by, answer_into}
use Rattle.pool.proofs.Checked.{few_buffers}
use Rattle.pool.proofs.Pool.audit.Goals as goal

pub first_fault-requires : goal.first_fault-requires
first_fault-requires c = few_buffers c.args.self (fine_by c.sound_check.result c.sound_check.ensures c.in-Ok.is)

pub returns-in-Err : goal.returns-in-Err
unfolding audit_of
returns-in-Err c = answer_into c.sound_check.result _ _ _ c.in-Err.is c.sound_check.ensures c.from.ensures

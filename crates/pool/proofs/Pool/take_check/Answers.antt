-- `pool::Pool::take_check` meets its contract where a check that it calls refuses. Assumes nothing.
use Rattle.pool.specs.Checks.{take_check}
use Rattle.pool.proofs.Told.{first_on, first_fine, fine_by}
use Rattle.pool.proofs.Checked.{few_buffers}
use Rattle.pool.proofs.Pool.take_check.Goals as goal

pub returns-in_err-sound_check-clause-check : goal.returns-in_err-sound_check-clause-check
unfolding take_check
returns-in_err-sound_check-clause-check c = first_on _ c.in_err-sound_check.was c.from_residual.ensures.1 c.sound_check.ensures _

pub id_check-requires : goal.id_check-requires
id_check-requires c = few_buffers c.args.self.now (fine_by c.sound_check.result c.sound_check.ensures c.in_ok-sound_check.was)

pub returns-in_err-k-clause-check : goal.returns-in_err-k-clause-check
unfolding take_check
returns-in_err-k-clause-check c =
    first_fine c.sound_check.result _ _ _ c.sound_check.ensures c.in_ok-sound_check.was
    (first_on _ c.in_err-k.was c.from_residual-in_err-k.ensures.1 c.id_check.ensures.check _)

-- `pool::Pool::worker_check` meets its contract: a sound record has at most 8 workers. Assumes nothing.
use Rattle.std.proofs.Common.{arith}
use Rattle.pool.specs.Checks.{worker_check}
use Rattle.pool.proofs.Parts.{sizes_of}
use Rattle.pool.proofs.Told.{first_on, fine_by}
use Rattle.pool.proofs.Checked.{sound_of_lem}
use Rattle.pool.proofs.Pool.worker_check.Goals as goal

pub returns-in_err-sound_check-clause-check : goal.returns-in_err-sound_check-clause-check
unfolding worker_check
returns-in_err-sound_check-clause-check c = first_on _ c.in_err-sound_check.was c.from_residual.ensures.1 c.sound_check.ensures _

pub invariant_of-result : goal.invariant_of-result
invariant_of-result c =
    let p = c.args.self.now in
    let sizes = sizes_of p (sound_of_lem p (fine_by c.sound_check.result c.sound_check.ensures c.in_ok-sound_check.was)) in
    record { below = omega (arith, sizes.w_most) }

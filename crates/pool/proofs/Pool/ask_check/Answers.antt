-- `pool::Pool::ask_check` meets its contract: the begin's check, then the id's. Assumes nothing.
use Rattle.pool.specs.Checks.{ask_check}
use Rattle.pool.proofs.Told.{first_on, fine_by}
use Rattle.pool.proofs.Checked.{few_to_name}
use Rattle.pool.proofs.Pool.ask_check.Goals as goal

pub returns-in_err-begin_check-clause-check : goal.returns-in_err-begin_check-clause-check
unfolding ask_check
returns-in_err-begin_check-clause-check c = first_on _ c.in_err-begin_check.was c.from_residual.ensures.1 c.begin_check.ensures.check _

pub id_check-requires : goal.id_check-requires
id_check-requires c = few_to_name c.args.self.now c.args.w (fine_by c.begin_check.result c.begin_check.ensures.check c.in_ok-begin_check.was)

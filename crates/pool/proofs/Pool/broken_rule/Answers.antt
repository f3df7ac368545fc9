-- `pool::Pool::broken_rule` meets its contract: rule by rule, the first that is broken. Assumes nothing.
use Rattle.pool.specs.Sound.{sound_check}
use Rattle.pool.proofs.Told.{first_on, first_fine}
use Rattle.pool.proofs.Pool.broken_rule.Goals as goal

pub returns-in_err-counts_check : goal.returns-in_err-counts_check
unfolding sound_check
returns-in_err-counts_check c =
    first_on _ c.in_err-counts_check.was c.from_residual.ensures.1 c.counts_check.ensures _

pub returns-in_err-beyond_check : goal.returns-in_err-beyond_check
unfolding sound_check
returns-in_err-beyond_check c =
    first_fine c.counts_check.result _ _ _ c.counts_check.ensures c.in_ok-counts_check.was
    (first_on _ c.in_err-beyond_check.was c.from_residual-in_err-beyond_check.ensures.1 c.beyond_check.ensures _)

pub returns-in_err-kinds_check : goal.returns-in_err-kinds_check
unfolding sound_check
returns-in_err-kinds_check c =
    first_fine c.counts_check.result _ _ _ c.counts_check.ensures c.in_ok-counts_check.was
    (first_fine c.beyond_check.result _ _ _ c.beyond_check.ensures c.in_ok-beyond_check.was
    (first_on _ c.in_err-kinds_check.was c.from_residual-in_err-kinds_check.ensures.1 c.kinds_check.ensures _))

pub returns-in_err-ids_check : goal.returns-in_err-ids_check
unfolding sound_check
returns-in_err-ids_check c =
    first_fine c.counts_check.result _ _ _ c.counts_check.ensures c.in_ok-counts_check.was
    (first_fine c.beyond_check.result _ _ _ c.beyond_check.ensures c.in_ok-beyond_check.was
    (first_fine c.kinds_check.result _ _ _ c.kinds_check.ensures c.in_ok-kinds_check.was
    (first_on _ c.in_err-ids_check.was c.from_residual-in_err-ids_check.ensures.1 c.ids_check.ensures _)))

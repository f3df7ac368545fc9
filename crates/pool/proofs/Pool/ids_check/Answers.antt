-- `pool::Pool::ids_check` meets its contract: the guards, then the workers. Assumes nothing.
use Rattle.std.proofs.Common.{suc, arith, rules}
use Rattle.pool.specs.Sound.{guard_ids, worker_ids, ids_check}
use Rattle.pool.proofs.Told.{first_on, first_fine}
use Rattle.pool.proofs.Pool.ids_check.Goals as goal

pub returns-in_err-search : goal.returns-in_err-search
unfolding ids_check
returns-in_err-search c =
    first_on _ c.in_err-search.was c.from_residual.ensures.1
    (c.search.ensures (λ i. i) (λ k. omega arith) (guard_ids c.args.self.now) (λ k b h post. search rules)) _

pub returns : goal.returns
unfolding ids_check
returns c =
    first_fine c.search.result _ _ _ (c.search.ensures (λ i. i) (λ k. omega arith) (guard_ids c.args.self.now) (λ k b h post. search rules)) c.in_ok-search.was
    (c.search-2.ensures suc (λ k. omega arith) (worker_ids c.args.self.now) (λ k b h post. search rules))

-- `pool::Pool::kinds_check` meets its contract: the guards, then the buffers, then the workers. Assumes nothing.
use Rattle.std.proofs.Common.{suc, arith, rules}
use Rattle.pool.specs.Sound.{employer_in, state_in, label_in, kinds_check}
use Rattle.pool.proofs.Told.{first_on, first_fine}
use Rattle.pool.proofs.Scans.{entry}
use Rattle.pool.proofs.Pool.kinds_check.Goals as goal

pub returns-in_err-search : goal.returns-in_err-search
unfolding kinds_check
returns-in_err-search c =
    first_on _ c.in_err-search.was c.from_residual.ensures.1
    (c.search.ensures (λ i. i) (λ k. omega arith) (employer_in c.args.self.now) (λ k b h post. search rules)) _

pub returns-in_err-search-2 : goal.returns-in_err-search-2
unfolding kinds_check
returns-in_err-search-2 c =
    first_fine c.search.result _ _ _ (c.search.ensures (λ i. i) (λ k. omega arith) (employer_in c.args.self.now) (λ k b h post. search rules)) c.in_ok-search.was
    (first_on _ c.in_err-search-2.was c.from_residual-in_err-search-2.ensures.1
    (c.search-2.ensures suc (λ k. omega arith) (state_in c.args.self.now) (λ k b h post. rw (← entry c.args.self.now k) (search rules))) _)

pub returns : goal.returns
unfolding kinds_check
returns c =
    first_fine c.search.result _ _ _ (c.search.ensures (λ i. i) (λ k. omega arith) (employer_in c.args.self.now) (λ k b h post. search rules)) c.in_ok-search.was
    (first_fine c.search-2.result _ _ _ (c.search-2.ensures suc (λ k. omega arith) (state_in c.args.self.now) (λ k b h post. rw (← entry c.args.self.now k) (search rules))) c.in_ok-search-2.was
    (c.search-3.ensures suc (λ k. omega arith) (label_in c.args.self.now) (λ k b h post. search rules)))

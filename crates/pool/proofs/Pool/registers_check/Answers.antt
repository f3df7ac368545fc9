-- `pool::Pool::registers_check` meets its contract. Assumes nothing.
use Rattle.std.proofs.Common.{suc, arith, rules}
use Rattle.pool.specs.Sound.{worker_registers, registers_check}
use Rattle.pool.proofs.Pool.registers_check.Goals as goal

pub returns : goal.returns
unfolding registers_check
returns c = c.search.ensures suc (λ k. omega arith) (worker_registers c.args.self.now) (λ k b h post. search rules)

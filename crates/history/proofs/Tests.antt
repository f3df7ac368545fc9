-- What the tests of a give-up tell: the facts that the safety of a hold rests on, one for each shortcut that looks right. Assumes nothing.
use mathlib.Core.Path.{◌≡◌, sym}
use mathlib.Core.Logic.{◌≢◌}
use mathlib.Core.Bool.{true, false, not}
use Prim.Native.Nat.{ℕ, ◌+◌, ◌<◌}
use native.Mathlib.Omega.{arith}
use lib.Dec.{eqb, leb}
use borrow.Author.Tests.{eqb-true, eqb-false, leb-false, not-true}
use Rattle.basics.proofs.Truth.{and_left, and_right}
use Rattle.worker.specs.Steps.{last_failed}
use Rattle.pool.specs.declared.Pool.{Pool}
use Rattle.pool.specs.Record.{worker_at}
use Rattle.pool.specs.Steps.{i_of, last_guard, slot_here, unchanged, unposted}

pub some_id : (n : ℕ) → not (eqb n 0) ≡ true → 0 < n
some_id n t = let z = eqb-false n 0 (not-true (eqb n 0) t) in omega arith

module _ (k : ℕ) (p : Pool) where
  -- 12: the walk ends past MAXG as it now is
  pub past_maxg : leb (i_of p k) (last_guard k p) ≡ false → p.maxg < i_of p k
  past_maxg t = leb-false _ _ t

  -- 18 and 28: a slot that counts as unchanged has the version that was read
  pub same_version : unchanged k p ≡ true → (worker_at p k).h.version ≡ (slot_here p k).version
  same_version t = sym (eqb-true _ _ (and_right (eqb (slot_here p k).id (worker_at p k).h.id) _ t))

  -- 22: the attempts end with the third failure
  pub third_failure : last_failed (worker_at p k) ≡ true → (worker_at p k).attempts ≡ 2
  third_failure t = let n = eqb-true ((worker_at p k).attempts + 1) _ t in omega arith

  pub earlier_failure : last_failed (worker_at p k) ≡ false → (worker_at p k).attempts ≢ 2
  earlier_failure t = let n = eqb-false ((worker_at p k).attempts + 1) _ t in λ z. n (omega arith)

  -- 28: what is collected is a buffer, and not the one that the guard was posted on
  pub collects_some : unposted k p ≡ true → 0 < (worker_at p k).h.id
  collects_some t = some_id _ (and_left (not (eqb (worker_at p k).h.id 0)) _ t)

  pub collects_unposted : unposted k p ≡ true → (worker_at p k).h.id ≢ (worker_at p k).v
  collects_unposted t = eqb-false _ _ (not-true _ (and_right (not (eqb (worker_at p k).h.id 0)) _ t))

-- A refused call changes nothing.
use Rattle.std.specs.Prelude.{◌≡◌, ℕ}
use Rattle.pool.specs.declared.Pool.{Pool}
use Rattle.pool.specs.Answers.{refused}
use Rattle.rules.specs.Calls.{Call, call, lent_to, list_of}

-- the record is as it was, and the lent list as it was lent
pub record Unchanged (c : Call) (p : Pool) : Type 0 where
  pub pool : (call c p).pool ≡ p
  pub list : list_of c p ≡ lent_to c

abbrev pub RefusedUnchanged : Type 0
RefusedUnchanged = (c : Call) (p : Pool) (n place : ℕ) → (call c p).answer ≡ refused n place → Unchanged c p

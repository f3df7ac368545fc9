-- What an advance leaves as it was, accepted or refused.
use Rattle.std.specs.Prelude.{◌≡◌, true, List, ℕ, ◌-◌, ◌≤◌}
use Rattle.idset.specs.Members.{member_of}
use Rattle.pool.specs.declared.Pool.{Pool}
use Rattle.pool.specs.Record.{taken_at, employer_at, posted_at, slot_at, state_of, worker_at, set_at}
use Rattle.pool.specs.Steps.{i_of}
use Rattle.rules.specs.Calls.{advancing, call, list_of}

-- q is p after an advance of worker k + 1: the counts are the same, and so are MAXG but at 5, every other worker, every guard but i, and every
-- buffer but those of the set at 32
pub record Frame (p : Pool) (k : ℕ) (q : Pool) : Type 0 where
  pub w : q.w ≡ p.w
  pub g : q.g ≡ p.g
  pub b : q.b ≡ p.b
  pub maxg : ((worker_at p k).label ≡ 5 → ⊥) → q.maxg ≡ p.maxg
  pub worker : (j : ℕ) → (j ≡ k → ⊥) → worker_at q j ≡ worker_at p j
  pub set : (j : ℕ) → (j ≡ k → ⊥) → set_at q j ≡ set_at p j
  pub taken : (i : ℕ) → (i ≡ i_of p k → ⊥) → taken_at q i ≡ taken_at p i
  pub employer : (i : ℕ) → (i ≡ i_of p k → ⊥) → employer_at q i ≡ employer_at p i
  pub posted : (i : ℕ) → (i ≡ i_of p k → ⊥) → posted_at q i ≡ posted_at p i
  pub slot : (i : ℕ) → (i ≡ i_of p k → ⊥) → slot_at q i ≡ slot_at p i
  pub state : (id : ℕ) → 1 ≤ id → id ≤ 256 → ((worker_at p k).label ≡ 32 → member_of (set_at p k) id ≡ true → ⊥) → state_of q id ≡ state_of p id

-- the lent list is written at 32 alone
pub record AdvanceFrame : Type 0 where
  pub record_framed : (w : ℕ) (out : List ℕ) (p : Pool) → Frame p (w - 1) (call (advancing w out) p).pool
  pub list_framed : (w : ℕ) (out : List ℕ) (p : Pool) → ((worker_at p (w - 1)).label ≡ 32 → ⊥) → list_of (advancing w out) p ≡ out

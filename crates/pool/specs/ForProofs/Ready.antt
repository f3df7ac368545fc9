-- What the lines of the advance may rely on; a sound record provides it.
use Rattle.std.specs.Prelude.{ℕ, ◌≤◌, ◌<◌, ◌≡◌, true, List, length, eqb, unwrap_or}
use Rattle.basics.specs.Pick.{when}
use Rattle.idset.specs.Members.{member_of}
use Rattle.worker.specs.declared.Worker.{Worker}
use Rattle.worker.specs.Steps.{step_of}
use Rattle.pool.specs.declared.Pool.{Pool}
use Rattle.pool.specs.Record.{worker_at, set_at}
use Rattle.pool.specs.Sound.{sound_of}
use Rattle.pool.specs.Steps.{i_of, posted_here, slot_here, line_check, handed, list_after_check}

-- at any label but 12 and 32: the worker stands at a guard
pub record Ready (p : Pool) (k : ℕ) : Type 0 where
  pub i_below : i_of p k < 32
  pub attempts_most : (worker_at p k).attempts ≤ 3

-- a worker of a sound record that is not idle
pub record Stands (p : Pool) (k : ℕ) : Type 0 where
  pub sound : sound_of p ≡ true
  pub k_below : k < p.w
  pub busy : (worker_at p k).label ≡ 0 → ⊥

-- ---- what the lines make

-- the worker's own step
abbrev pub own_step : ℕ → Pool → Worker
own_step k p = unwrap_or (step_of (worker_at p k) p.maxg (posted_here p k) (member_of (set_at p k) (posted_here p k)) (slot_here p k)) (worker_at p k)

-- the lent list after the line of the label that the worker stands at
abbrev pub list_of : ℕ → Pool → List ℕ → List ℕ
list_of k p out =
    list_after_check (line_check (worker_at p k).label k p (length out)) out (when (eqb (worker_at p k).label 32) (handed (set_at p k) out) out)

-- From the line that a label takes to the table, and the call from its check and its line. Assumes nothing.
use mathlib.Core.Path.{◌≡◌, refl, ap}
use mathlib.Core.Bool.{false}
use mathlib.Core.List.{List}
use Prim.Native.Nat.{ℕ, ◌-◌}
use native.Mathlib.Decide.{ℕ_discrete}
use native.Mathlib.Omega.{arith}
use lib.Dec.{eqb}
use lib.ListN.{length}
use borrow.Author.Tests.{ne_eqb}
use Rattle.std.specs.Prelude.{Option, unwrap_or}
use Rattle.basics.specs.Pick.{when}
use Rattle.basics.specs.Among.{among}
use Rattle.worker.specs.declared.Worker.{Worker}
use Rattle.worker.proofs.Laws.{step_4, step_12, step_13, step_15, step_22, step_25, step_31}
use Rattle.pool.specs.declared.Pool.{Pool}
use Rattle.pool.specs.declared.WorkerNo.{WorkerNo}
use Rattle.pool.specs.Answers.{Told, Check, fine, refuse, first, after_check}
use Rattle.pool.specs.Record.{worker_at}
use Rattle.pool.specs.Steps.{puts, line_of, line_check, stand_check, advance_check, list_after_check}
use Rattle.pool.specs.Checks.{worker_of, worker_check}
use Rattle.pool.specs.ForProofs.Ready.{Stands, own_step, list_of}
use Rattle.pool.proofs.Standing.{before32, stands, ready, last_label}

-- ---- the lent list, where no line writes it

list_same : (c : Check) (l : List ℕ) → l ≡ list_after_check c l l
unfolding list_after_check
list_same fine l = refl
list_same (refuse n place) l = refl

pub list_unwritten : (k : ℕ) (p : Pool) (out : List ℕ) → eqb (worker_at p k).label 32 ≡ false → out ≡ list_of k p out
unfolding when
list_unwritten k p out e = rw e (list_same (line_check (worker_at p k).label k p (length out)) out)

-- ---- an arm of the dispatch

-- the line of label l, with its check
abbrev pub Full : ℕ → ℕ → Pool → ℕ → Told
Full l k p room = after_check (line_check l k p room) p (line_of l k p)

module _ (k : ℕ) (p : Pool) (st : Stands p k) (room : ℕ) where
  -- a step of the worker's own
  own : (o : Option Worker) → Told
  own o = puts k (unwrap_or o (worker_at p k)) p

  Own : ℕ → Type 0
  Own n = (worker_at p k).label ≡ n → puts k (own_step k p) p ≡ Full (worker_at p k).label k p room

  own4 : Own 4
  unfolding Own own line_of line_check when after_check
  own4 at = rw at (ap own (step_4 _ _ _ _ _ at))

  own12 : Own 12
  unfolding Own own line_of line_check when after_check
  own12 at = rw at (ap own (step_12 _ _ _ _ _ at))

  own13 : Own 13
  unfolding Own own line_of line_check when after_check
  own13 at = rw at (ap own (step_13 _ _ _ _ _ at))

  own15 : Own 15
  unfolding Own own line_of line_check when after_check
  own15 at = rw at (ap own (step_15 _ _ _ _ _ at))

  own22 : Own 22
  unfolding Own own line_of line_check when after_check
  own22 at = rw at (ap own (step_22 _ _ _ _ _ at (omega (arith, (ready p k 22 st at refl).attempts_most))))

  own25 : Own 25
  unfolding Own own line_of line_check when after_check
  own25 at = rw at (ap own (step_25 _ _ _ _ _ at))

  own31 : Own 31
  unfolding Own own line_of line_check when after_check
  own31 at = rw at (ap own (step_31 _ _ _ _ _ at (omega (arith, (ready p k 31 st at refl).i_below))))

  -- one label more is asked
  asked : {A : Type 0} (n : ℕ) → ((worker_at p k).label ≡ n → A) → (((worker_at p k).label ≡ n → ⊥) → A) → A
  asked {A} n here other = go (ℕ_discrete (worker_at p k).label n)
    where
      go : Dec ((worker_at p k).label ≡ n) → A
      go (yes e) = here e
      go (no n) = other n

  -- at none of the labels that have a line of their own, and not at 32 either
  pub own_rest : ((worker_at p k).label ≡ 32 → ⊥)
      → (((worker_at p k).label ≡ 4 → ⊥) → ((worker_at p k).label ≡ 12 → ⊥) → ((worker_at p k).label ≡ 13 → ⊥) → ((worker_at p k).label ≡ 15 → ⊥)
      → ((worker_at p k).label ≡ 22 → ⊥) → ((worker_at p k).label ≡ 25 → ⊥) → ((worker_at p k).label ≡ 31 → ⊥) → among before32 (worker_at p k).label ≡ false)
      → puts k (own_step k p) p ≡ Full (worker_at p k).label k p room
  unfolding Own
  own_rest not_last none =
      asked 4 own4 (λ n4.
      asked 12 own12 (λ n12.
      asked 13 own13 (λ n13.
      asked 15 own15 (λ n15.
      asked 22 own22 (λ n22.
      asked 25 own25 (λ n25.
      asked 31 own31 (λ n31.
      absurd (not_last (last_label st (none n4 n12 n13 n15 n22 n25 n31))))))))))

-- ---- the call, from its check and its line

pub stopped : (p : Pool) (w : WorkerNo) (out : List ℕ) {n place : ℕ} → worker_check p w ≡ refuse n place → advance_check p w (length out) ≡ refuse n place
unfolding advance_check stand_check first
stopped p w out e = rw e refl

module _ (p : Pool) (w : WorkerNo) (out : List ℕ) (named : worker_check p w ≡ fine) where
  pub idle_stops : (worker_of p w).label ≡ 0 → advance_check p w (length out) ≡ refuse 5 0
  unfolding advance_check stand_check first when
  idle_stops idle = rw (named, idle) refl

  module _ (busy : (worker_of p w).label ≡ 0 → ⊥) where
    may_stand : stand_check p w ≡ fine
    unfolding stand_check first when
    may_stand = rw (named, ne_eqb (worker_of p w).label 0 busy) refl

    pub here_stands : Stands p (w.0 - 1)
    here_stands = stands p w may_stand

    pub line_checked : advance_check p w (length out) ≡ line_check (worker_of p w).label (w.0 - 1) p (length out)
    unfolding advance_check first
    line_checked = rw may_stand refl

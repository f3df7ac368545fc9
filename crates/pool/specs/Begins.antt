-- The begins: what each accepted call does to the record. What a line does not name keeps its value, and a refused call changes nothing.
use Rattle.std.specs.Prelude.{ℕ, suc, ◌-◌, List, eqb}
use Rattle.basics.specs.Pick.{when}
use Rattle.basics.specs.Below.{table}
use Rattle.basics.specs.Among.{among}
use Rattle.idset.specs.Members.{set_of}
use Rattle.worker.specs.Registers.{to, with_i, with_v}
use Rattle.pool.specs.declared.WorkerNo.{WorkerNo}
use Rattle.pool.specs.declared.GuardNo.{GuardNo}
use Rattle.pool.specs.declared.BufferId.{BufferId}
use Rattle.pool.specs.declared.Pool.{Pool}
use Rattle.pool.specs.Answers.{Told, answering, accepted, yes, no, after_check}
use Rattle.pool.specs.Record.{state_of, worker_at, with_employer, with_states, with_state, with_worker, with_set}
use Rattle.pool.specs.Checks.{begin_check, fire_check, post_check, give_up_check, take_check, ask_check}

-- ---- hire: i = 0, label 2

abbrev pub hiring : ℕ → Pool → Pool
hiring k p = with_worker k (to 2 (with_i 0 (worker_at p k))) p

unfoldable pub hire_of : Pool → WorkerNo → Told
hire_of p w = after_check (begin_check p w) p (answering accepted (hiring (w.0 - 1) p))

-- ---- fire g: i = g, the employer of g becomes 0, label 7

abbrev pub firing : ℕ → ℕ → Pool → Pool
firing k g p = with_worker k (to 7 (with_i g (worker_at p k))) (with_employer g 0 p)

unfoldable pub fire_of : Pool → WorkerNo → GuardNo → Told
fire_of p w g = after_check (fire_check p w g) p (answering accepted (firing (w.0 - 1) g.0 p))

-- ---- post g, b: i = g, v = b, label 9

abbrev pub posting : ℕ → ℕ → ℕ → Pool → Pool
posting k g b p = with_worker k (to 9 (with_v b (with_i g (worker_at p k)))) p

unfoldable pub post_of : Pool → WorkerNo → GuardNo → BufferId → Told
post_of p w g b = after_check (post_check p w g b) p (answering accepted (posting (w.0 - 1) g.0 b.0 p))

-- ---- give up a list: its buffers become leaving and are the worker's set; i = 0, label 12

-- the states after: entry k is that of buffer k + 1
abbrev pub leaving : List ℕ → Pool → List ℕ
leaving ids p = table 256 (λ k. when (among ids (suc k)) 2 (state_of p (suc k)))

abbrev pub giving : ℕ → List ℕ → Pool → Pool
giving k ids p = with_worker k (to 12 (with_i 0 (worker_at p k))) (with_set k (set_of (among ids)) (with_states (leaving ids p) p))

unfoldable pub give_up_of : Pool → WorkerNo → List ℕ → Told
give_up_of p w ids = after_check (give_up_check p w ids) p (answering accepted (giving (w.0 - 1) ids p))

-- ---- take b: a free buffer becomes in service

unfoldable pub take_of : Pool → BufferId → Told
take_of p b = after_check (take_check p b) p (answering accepted (with_state b.0 1 p))

-- ---- ask b: yes exactly when b is in service; nothing changes

unfoldable pub ask_of : Pool → WorkerNo → BufferId → Told
ask_of p w b = after_check (ask_check p w b) p (answering (when (eqb (state_of p b.0) 1) yes no) p)

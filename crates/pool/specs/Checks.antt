-- What each call refuses, in the order of the paper's table: a chain of tests, and `fine` where none applies.
use Rattle.std.specs.Prelude.{ℕ, ◌-◌, List, eqb, leb, ltb, length, get_or}
use Rattle.basics.specs.Pick.{when, unless}
use Rattle.basics.specs.Among.{among_first}
use Rattle.worker.specs.declared.Worker.{Worker}
use Rattle.pool.specs.declared.WorkerNo.{WorkerNo}
use Rattle.pool.specs.declared.GuardNo.{GuardNo}
use Rattle.pool.specs.declared.BufferId.{BufferId}
use Rattle.pool.specs.declared.Pool.{Pool}
use Rattle.pool.specs.Answers.{Check, fine, refuse, first, first_below}
use Rattle.pool.specs.Record.{employer_at, posted_at, state_of, worker_at}
use Rattle.pool.specs.Sound.{sound_check}

abbrev pub worker_of : Pool → WorkerNo → Worker
worker_of p w = worker_at p (w.0 - 1)

-- ---- what several calls refuse

-- 21 to 25, 3
unfoldable pub worker_check : Pool → WorkerNo → Check
worker_check p w =
    first (sound_check p)
    (when (ltb w.0 1) (refuse 3 0)
    (when (ltb p.w w.0) (refuse 3 0)
    fine))

-- 21 to 25, 3, 4
unfoldable pub begin_check : Pool → WorkerNo → Check
begin_check p w = first (worker_check p w) (unless (eqb (worker_of p w).label 0) (refuse 4 0) fine)

-- 6, 7
unfoldable pub guard_check : Pool → WorkerNo → GuardNo → Check
guard_check p w g =
    when (leb p.g g.0) (refuse 6 0)
    (unless (eqb (employer_at p g.0) w.0) (refuse 7 0)
    fine)

-- 9, of an id that is to name a buffer
unfoldable pub id_check : Pool → ℕ → ℕ → Check
id_check p id place =
    when (ltb id 1) (refuse 9 place)
    (when (ltb p.b id) (refuse 9 place)
    fine)

-- ---- the calls

unfoldable pub fire_check : Pool → WorkerNo → GuardNo → Check
fire_check p w g =
    first (begin_check p w)
    (first (guard_check p w g)
    (unless (eqb (posted_at p g.0) 0) (refuse 8 0)
    fine))

-- 0 stands the guard down, so only an id above B is refused
unfoldable pub post_check : Pool → WorkerNo → GuardNo → BufferId → Check
post_check p w g b =
    first (begin_check p w)
    (first (guard_check p w g)
    (when (ltb p.b b.0) (refuse 9 0)
    fine))

-- entry k of a give-up list: 9, 10, 11
unfoldable pub entry_check : Pool → List ℕ → ℕ → Check
entry_check p ids k =
    first (id_check p (get_or ids k 0) k)
    (when (among_first ids k (get_or ids k 0)) (refuse 10 k)
    (unless (eqb (state_of p (get_or ids k 0)) 1) (refuse 11 k)
    fine))

-- the first n entries: the first at fault decides
abbrev pub list_check : Pool → List ℕ → ℕ → Check
list_check p ids n = first_below n (entry_check p ids)

unfoldable pub give_up_check : Pool → WorkerNo → List ℕ → Check
give_up_check p w ids = first (begin_check p w) (list_check p ids (length ids))

unfoldable pub take_check : Pool → BufferId → Check
take_check p b =
    first (sound_check p)
    (first (id_check p b.0 0)
    (unless (eqb (state_of p b.0) 0) (refuse 11 0)
    fine))

unfoldable pub ask_check : Pool → WorkerNo → BufferId → Check
ask_check p w b = first (begin_check p w) (id_check p b.0 0)

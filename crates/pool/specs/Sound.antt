-- When a record is sound, and which rule it breaks first. The rules stand in the paper's order. Each is asked of the pool, then of the guards, the
-- buffers and the workers, from the lowest number on; whoever fails it first is the place: a guard's number, a buffer's id, a worker's number, and 0
-- for the pool. An entry beyond the counts is zero by rule 22 and then passes the later ones, so those ask every entry.
use Rattle.std.specs.Prelude.{ℕ, suc, Bool, not, ◌&&◌, ◌||◌, List, [], ◌∷◌, eqb, leb, ltb}
use Rattle.basics.specs.Pick.{unless}
use Rattle.basics.specs.Among.{among}
use Rattle.idset.specs.declared.IdSet.{IdSet}
use Rattle.idset.specs.Members.{within_of}
use Rattle.worker.specs.declared.Worker.{Worker}
use Rattle.pool.specs.declared.Pool.{Pool}
use Rattle.pool.specs.Answers.{Check, fine, refuse, first, first_below, is_fine}
use Rattle.pool.specs.Record.{taken_at, employer_at, posted_at, slot_at, state_of, worker_at, set_at}

-- ---- who is asked: guard i, buffer k + 1 and worker k + 1 must pass the test of i, k and k

abbrev pub keeps : ℕ → ℕ → Bool → Check
keeps rule place test = unless test (refuse rule place) fine

abbrev pub guards_keep : ℕ → (ℕ → Bool) → Check
guards_keep rule test = first_below 32 (λ i. keeps rule i (test i))

abbrev pub buffers_keep : ℕ → (ℕ → Bool) → Check
buffers_keep rule test = first_below 256 (λ k. keeps rule (suc k) (test k))

abbrev pub workers_keep : ℕ → (ℕ → Bool) → Check
workers_keep rule test = first_below 8 (λ k. keeps rule (suc k) (test k))

-- ---- 21: W, G and B are in range, and MAXG < G

abbrev pub in_range : ℕ → ℕ → ℕ → Bool
in_range w g b = leb 1 w && leb w 8 && leb 1 g && leb g 32 && leb 1 b && leb b 256

abbrev pub counts_sound : Pool → Bool
counts_sound p = in_range p.w p.g p.b && ltb p.maxg p.g

unfoldable pub counts_check : Pool → Check
counts_check p = keeps 21 0 (counts_sound p)

-- ---- 22: every entry beyond the counts is zero

abbrev pub zero_guard : Pool → ℕ → Bool
zero_guard p i = not (taken_at p i) && eqb (employer_at p i) 0 && eqb (posted_at p i) 0 && eqb (slot_at p i).id 0 && eqb (slot_at p i).version 0

-- idle, its registers 0
abbrev pub zero_worker : Worker → Bool
zero_worker x = eqb x.label 0 && eqb x.i 0 && eqb x.v 0 && eqb x.h.id 0 && eqb x.h.version 0 && eqb x.attempts 0 && eqb x.max 0

abbrev pub guards_beyond : Pool → ℕ → Bool
guards_beyond p i = ltb i p.g || zero_guard p i

abbrev pub buffers_beyond : Pool → ℕ → Bool
buffers_beyond p k = ltb k p.b || eqb (state_of p (suc k)) 0

-- no member is above 0: the set is empty
abbrev pub workers_beyond : Pool → ℕ → Bool
workers_beyond p k = ltb k p.w || zero_worker (worker_at p k) && within_of (set_at p k) 0

unfoldable pub beyond_check : Pool → Check
beyond_check p = first (guards_keep 22 (guards_beyond p)) (first (buffers_keep 22 (buffers_beyond p)) (workers_keep 22 (workers_beyond p)))

-- ---- 23: employers are at most W, every state is one of the three, and labels are the paper's

abbrev pub employer_in : Pool → ℕ → Bool
employer_in p i = leb (employer_at p i) p.w

abbrev pub state_in : Pool → ℕ → Bool
state_in p k = leb (state_of p (suc k)) 2

-- idle is 0
abbrev pub labels : List ℕ
labels = 0 ∷ 2 ∷ 4 ∷ 5 ∷ 6 ∷ 7 ∷ 8 ∷ 9 ∷ 10 ∷ 12 ∷ 13 ∷ 15 ∷ 18 ∷ 22 ∷ 25 ∷ 28 ∷ 31 ∷ 32 ∷ []

abbrev pub is_label : ℕ → Bool
is_label l = among labels l

abbrev pub label_in : Pool → ℕ → Bool
label_in p k = is_label (worker_at p k).label

unfoldable pub kinds_check : Pool → Check
kinds_check p = first (guards_keep 23 (employer_in p)) (first (buffers_keep 23 (state_in p)) (workers_keep 23 (label_in p)))

-- ---- 24: every id stored is at most B

abbrev pub guard_ids : Pool → ℕ → Bool
guard_ids p i = leb (posted_at p i) p.b && leb (slot_at p i).id p.b

abbrev pub ids_in : ℕ → Worker → IdSet → Bool
ids_in b x s = leb x.v b && leb x.h.id b && within_of s b

abbrev pub worker_ids : Pool → ℕ → Bool
worker_ids p k = ids_in p.b (worker_at p k) (set_at p k)

unfoldable pub ids_check : Pool → Check
ids_check p = first (guards_keep 24 (guard_ids p)) (workers_keep 24 (worker_ids p))

-- ---- 25: register ranges

-- i < G, save at labels 12 and 32 where i may equal G; max < G; attempts at most 3, and at most 2 at labels 15, 18, 22 and 25
abbrev pub registers_in : ℕ → Worker → Bool
registers_in g x =
    (ltb x.i g || (eqb x.label 12 || eqb x.label 32) && eqb x.i g)
    && ltb x.max g
    && leb x.attempts 3
    && (leb x.attempts 2 || not (eqb x.label 15 || eqb x.label 18 || eqb x.label 22 || eqb x.label 25))

abbrev pub worker_registers : Pool → ℕ → Bool
worker_registers p k = registers_in p.g (worker_at p k)

unfoldable pub registers_check : Pool → Check
registers_check p = workers_keep 25 (worker_registers p)

-- ---- the first rule that is broken, and where; a sound record breaks none

unfoldable pub sound_check : Pool → Check
sound_check p = first (counts_check p) (first (beyond_check p) (first (kinds_check p) (first (ids_check p) (registers_check p))))

unfoldable pub sound_of : Pool → Bool
sound_of p = is_fine (sound_check p)

-- The parts of a pool record, by the numbers of the paper: guard i from 0, buffer id from 1; k is a worker's number less 1.
use Rattle.std.specs.Prelude.{ℕ, ◌-◌, Bool, false, List, [], get_or, set, replicate}
use Rattle.idset.specs.declared.IdSet.{IdSet}
use Rattle.idset.specs.Members.{no_ids}
use Rattle.worker.specs.declared.Slot.{Slot}
use Rattle.worker.specs.declared.Worker.{Worker}
use Rattle.worker.specs.Registers.{no_worker}
use Rattle.pool.specs.declared.Pool.{Pool}

-- ---- reading

abbrev pub taken_at : Pool → ℕ → Bool
taken_at p i = get_or p.taken i false

abbrev pub employer_at : Pool → ℕ → ℕ
employer_at p i = get_or p.employer i 0

abbrev pub posted_at : Pool → ℕ → ℕ
posted_at p i = get_or p.posted i 0

abbrev pub slot_at : Pool → ℕ → Slot
slot_at p i = record { id = get_or p.slot_id i 0; version = get_or p.slot_version i 0 }

-- 0 free, 1 in service, 2 leaving
abbrev pub state_of : Pool → ℕ → ℕ
state_of p id = get_or p.states (id - 1) 0

abbrev pub worker_at : Pool → ℕ → Worker
worker_at p k = get_or p.workers k no_worker

abbrev pub set_at : Pool → ℕ → IdSet
set_at p k = get_or p.sets k (record { words = [] })

-- ---- the whole record: built here and nowhere else

abbrev pub record_of : ℕ → ℕ → ℕ → ℕ → List Bool → List ℕ → List ℕ → List ℕ → List ℕ → List ℕ → List Worker → List IdSet → Pool
record_of w g b maxg taken employer posted ids versions states workers sets =
    record {
      w = w;
      g = g;
      b = b;
      maxg = maxg;
      taken = taken;
      employer = employer;
      posted = posted;
      slot_id = ids;
      slot_version = versions;
      states = states;
      workers = workers;
      sets = sets;
    }

-- these counts, and every other number 0: no guard taken, every buffer free, every worker idle, every set empty
abbrev pub blank : ℕ → ℕ → ℕ → Pool
blank w g b =
    record_of w g b 0 (replicate 32 false) (replicate 32 0) (replicate 32 0) (replicate 32 0) (replicate 32 0) (replicate 256 0)
    (replicate 8 no_worker) (replicate 8 no_ids)

-- ---- changing: one word per field, and all else as it was

abbrev pub with_maxg : ℕ → Pool → Pool
with_maxg m p =
    record_of p.w p.g p.b m p.taken p.employer p.posted p.slot_id p.slot_version p.states p.workers p.sets

abbrev pub with_taken : ℕ → Bool → Pool → Pool
with_taken i t p =
    record_of p.w p.g p.b p.maxg (set p.taken i t) p.employer p.posted p.slot_id p.slot_version p.states p.workers p.sets

abbrev pub with_employer : ℕ → ℕ → Pool → Pool
with_employer i n p =
    record_of p.w p.g p.b p.maxg p.taken (set p.employer i n) p.posted p.slot_id p.slot_version p.states p.workers p.sets

abbrev pub with_posted : ℕ → ℕ → Pool → Pool
with_posted i id p =
    record_of p.w p.g p.b p.maxg p.taken p.employer (set p.posted i id) p.slot_id p.slot_version p.states p.workers p.sets

abbrev pub with_slot : ℕ → Slot → Pool → Pool
with_slot i s p =
    record_of p.w p.g p.b p.maxg p.taken p.employer p.posted (set p.slot_id i s.id) (set p.slot_version i s.version) p.states p.workers p.sets

abbrev pub with_states : List ℕ → Pool → Pool
with_states l p =
    record_of p.w p.g p.b p.maxg p.taken p.employer p.posted p.slot_id p.slot_version l p.workers p.sets

abbrev pub with_worker : ℕ → Worker → Pool → Pool
with_worker k x p =
    record_of p.w p.g p.b p.maxg p.taken p.employer p.posted p.slot_id p.slot_version p.states (set p.workers k x) p.sets

abbrev pub with_set : ℕ → IdSet → Pool → Pool
with_set k s p =
    record_of p.w p.g p.b p.maxg p.taken p.employer p.posted p.slot_id p.slot_version p.states p.workers (set p.sets k s)

-- buffer id's state
abbrev pub with_state : ℕ → ℕ → Pool → Pool
with_state id s p = with_states (set p.states (id - 1) s) p

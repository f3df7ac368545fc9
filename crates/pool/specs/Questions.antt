-- The questions. Nothing changes, so each is only what it answers.
use Rattle.std.specs.Prelude.{ℕ, zero, suc, ◌+◌, ◌-◌, eqb}
use Rattle.basics.specs.Pick.{when}
use Rattle.basics.specs.Below.{count_below, one}
use Rattle.idset.specs.Members.{member_of, size_of}
use Rattle.pool.specs.declared.WorkerNo.{WorkerNo}
use Rattle.pool.specs.declared.Pool.{Pool}
use Rattle.pool.specs.Answers.{Said, count, clear, fault, answer_after}
use Rattle.pool.specs.Record.{slot_at, state_of, set_at}
use Rattle.pool.specs.Sound.{sound_check}
use Rattle.pool.specs.Checks.{worker_check}

-- the size of a worker's set
unfoldable pub set_size_of : Pool → WorkerNo → Said
set_size_of p w = answer_after (worker_check p w) (count (size_of (set_at p (w.0 - 1))))

-- the number of leaving buffers
unfoldable pub leaving_count_of : Pool → Said
leaving_count_of p = answer_after (sound_check p) (count (count_below 256 (λ k. eqb (state_of p (suc k)) 2)))

-- ---- the audit

-- a buffer's places: the slots that hold it, and the sets that do
unfoldable pub places_of : Pool → ℕ → ℕ
places_of p id = count_below 32 (λ i. eqb (slot_at p i).id id) + count_below 8 (λ k. member_of (set_at p k) id)

-- 1 if it is leaving, else 0
abbrev pub wanted_of : Pool → ℕ → ℕ
wanted_of p id = one (eqb (state_of p id) 2)

-- of the n ids from id on, the lowest that differs, with its number of places
unfoldable pub audit_from : Pool → ℕ → ℕ → Said
audit_from p zero id = clear
audit_from p (suc n) id = when (eqb (places_of p id) (wanted_of p id)) (audit_from p n (suc id)) (fault id (places_of p id))

unfoldable pub audit_of : Pool → Said
audit_of p = answer_after (sound_check p) (audit_from p p.b 1)

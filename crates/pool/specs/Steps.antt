-- One advance of a worker: the paper's table, a definition for each label. k is the worker's number less 1; i, v, h, attempts and max are its
-- registers, and guard i is the one it is at.
use Rattle.std.specs.Prelude.{ℕ, suc, ◌+◌, ◌-◌, Bool, true, false, not, ◌&&◌, ◌||◌, List, ◌++◌, eqb, ltb, length, drop}
use Rattle.basics.specs.Pick.{when, unless}
use Rattle.basics.specs.Below.{all_below, table}
use Rattle.idset.specs.declared.IdSet.{IdSet}
use Rattle.idset.specs.Members.{member_of, no_ids, with_of, without_of, size_of, members_of}
use Rattle.worker.specs.declared.Slot.{Slot}
use Rattle.worker.specs.declared.Worker.{Worker}
use Rattle.worker.specs.Registers.{no_worker, to, with_i}
use Rattle.worker.specs.Steps.{same_slot, at4, at12, at13, at15, at22, at25, at31}
use Rattle.pool.specs.declared.WorkerNo.{WorkerNo}
use Rattle.pool.specs.declared.Pool.{Pool}
use Rattle.pool.specs.Answers.{Said, Told, Check, answering, label, guard, none_found, fired, posted, back, fine, refuse, first, after_check}
use Rattle.pool.specs.Record.{taken_at, posted_at, slot_at, state_of, worker_at, set_at, with_maxg, with_taken, with_employer, with_posted, with_slot, with_states, with_worker, with_set}
use Rattle.pool.specs.Checks.{worker_of, worker_check}

-- a slot's version never wraps
abbrev pub largest_version : ℕ
largest_version = 4294967295

-- ---- what the worker is at

abbrev pub i_of : Pool → ℕ → ℕ
i_of p k = (worker_at p k).i

abbrev pub posted_here : Pool → ℕ → ℕ
posted_here p k = posted_at p (i_of p k)

abbrev pub slot_here : Pool → ℕ → Slot
slot_here p k = slot_at p (i_of p k)

-- ---- how an advance closes

-- the worker's label and registers are x from now on, and the answer is that label
unfoldable pub puts : ℕ → Worker → Pool → Told
puts k x p = answering (label x.label) (with_worker k x p)

-- on to label l
abbrev pub goes : ℕ → ℕ → Pool → Told
goes k l p = puts k (to l (worker_at p k)) p

-- an end: the label idle, the registers 0, the set empty
unfoldable pub ends : ℕ → Said → Pool → Told
ends k a p = answering a (with_set k no_ids (with_worker k no_worker p))

-- ---- hire

-- 2: guards are tried in turn; past the last one the hire finds none
unfoldable pub line2 : ℕ → Pool → Told
line2 k p =
    unless (taken_at p (i_of p k)) (goes k 4 (with_taken (i_of p k) true p))
    (when (eqb (i_of p k + 1) p.g) (ends k none_found p)
    (puts k (with_i (i_of p k + 1) (worker_at p k)) p))

-- 4
abbrev pub line4 : ℕ → Pool → Told
line4 k p = puts k (at4 (worker_at p k) p.maxg) p

-- 5: MAXG rises only if it is still what 4 read
abbrev pub line5 : ℕ → Pool → Told
line5 k p = goes k 4 (with_maxg (when (eqb p.maxg (worker_at p k).max) (i_of p k) p.maxg) p)

-- 6
abbrev pub line6 : ℕ → Pool → Told
line6 k p = ends k (guard (i_of p k)) (with_employer (i_of p k) (k + 1) p)

-- ---- fire

-- 7
abbrev pub line7 : ℕ → Pool → Told
line7 k p = goes k 8 (with_taken (i_of p k) false p)

-- 8
abbrev pub line8 : ℕ → Pool → Told
line8 k p = ends k fired p

-- ---- post

-- 9
abbrev pub line9 : ℕ → Pool → Told
line9 k p = goes k 10 (with_posted (i_of p k) (worker_at p k).v p)

-- 10
abbrev pub line10 : ℕ → Pool → Told
line10 k p = ends k posted p

-- ---- give up

-- 12: the last guard to visit is MAXG as it is at this visit
abbrev pub last_guard : ℕ → Pool → ℕ
last_guard k p = p.maxg

abbrev pub line12 : ℕ → Pool → Told
line12 k p = puts k (at12 (worker_at p k) (last_guard k p)) p

-- 13
abbrev pub line13 : ℕ → Pool → Told
line13 k p = puts k (at13 (worker_at p k) (slot_here p k)) p

-- 15
abbrev pub line15 : ℕ → Pool → Told
line15 k p = puts k (at15 (worker_at p k) (posted_here p k) (member_of (set_at p k) (posted_here p k))) p

-- nobody has stored to slot i since h was read: both parts agree
abbrev pub unchanged : ℕ → Pool → Bool
unchanged k p = same_slot (slot_here p k) (worker_at p k).h

-- another id goes into slot i, whose version rises by one
abbrev pub refilled : ℕ → ℕ → Pool → Pool
refilled k id p = with_slot (i_of p k) (record { id = id; version = (slot_here p k).version + 1 }) p

-- 18: v is exchanged for what the slot holds; 0 is no id, so nothing joins for it
abbrev pub exchange : ℕ → Pool → Told
exchange k p = goes k 31 (with_set k (with_of (without_of (set_at p k) (worker_at p k).v) (worker_at p k).h.id) (refilled k (worker_at p k).v p))

unfoldable pub line18 : ℕ → Pool → Told
line18 k p = unless (unchanged k p) (goes k 22 p) (exchange k p)

-- 22
abbrev pub line22 : ℕ → Pool → Told
line22 k p = puts k (at22 (worker_at p k) (slot_here p k)) p

-- 25
abbrev pub line25 : ℕ → Pool → Told
line25 k p = puts k (at25 (worker_at p k) (posted_here p k)) p

-- h is a buffer, and not the one that guard i was posted on
abbrev pub unposted : ℕ → Pool → Bool
unposted k p = not (eqb (worker_at p k).h.id 0) && not (eqb (worker_at p k).h.id (worker_at p k).v)

-- the slot's buffer may be collected
abbrev pub collects : ℕ → Pool → Bool
collects k p = unposted k p && unchanged k p

-- 28
abbrev pub collect : ℕ → Pool → Told
collect k p = goes k 31 (with_set k (with_of (set_at p k) (worker_at p k).h.id) (refilled k 0 p))

unfoldable pub line28 : ℕ → Pool → Told
line28 k p = unless (collects k p) (goes k 31 p) (collect k p)

-- 31
abbrev pub line31 : ℕ → Pool → Told
line31 k p = puts k (at31 (worker_at p k)) p

-- the states with a set's buffers free: entry j is that of buffer j + 1
abbrev pub freed : IdSet → Pool → List ℕ
freed s p = table 256 (λ j. when (member_of s (suc j)) 0 (state_of p (suc j)))

-- 32
abbrev pub line32 : ℕ → Pool → Told
line32 k p = ends k (back (size_of (set_at p k))) (with_states (freed (set_at p k) p) p)

-- ---- the table. A worker of a sound record that stands at none of the labels before stands at 32

unfoldable pub line_of : ℕ → ℕ → Pool → Told
line_of l k p =
    when (eqb l 2) (line2 k p)
    (when (eqb l 4) (line4 k p)
    (when (eqb l 5) (line5 k p)
    (when (eqb l 6) (line6 k p)
    (when (eqb l 7) (line7 k p)
    (when (eqb l 8) (line8 k p)
    (when (eqb l 9) (line9 k p)
    (when (eqb l 10) (line10 k p)
    (when (eqb l 12) (line12 k p)
    (when (eqb l 13) (line13 k p)
    (when (eqb l 15) (line15 k p)
    (when (eqb l 18) (line18 k p)
    (when (eqb l 22) (line22 k p)
    (when (eqb l 25) (line25 k p)
    (when (eqb l 28) (line28 k p)
    (when (eqb l 31) (line31 k p)
    (line32 k p))))))))))))))))

-- ---- what an advance refuses: 21 to 25, 3, 5, 12, 14, 13

-- 12: a store to a slot whose version is the largest
abbrev pub version_check : Bool → ℕ → Pool → Check
version_check stores k p = when (stores && eqb (slot_here p k).version largest_version) (refuse 12 0) fine

-- 14: a set member isn't leaving. 13: the lent list is shorter than the set
unfoldable pub hand_check : ℕ → Pool → ℕ → Check
hand_check k p room =
    unless (all_below 256 (λ j. not (member_of (set_at p k) (suc j)) || eqb (state_of p (suc j)) 2)) (refuse 14 0)
    (when (ltb room (size_of (set_at p k))) (refuse 13 0)
    fine)

-- what the label's own line refuses
unfoldable pub line_check : ℕ → ℕ → Pool → ℕ → Check
line_check l k p room =
    when (eqb l 18) (version_check (unchanged k p) k p)
    (when (eqb l 28) (version_check (collects k p) k p)
    (when (eqb l 32) (hand_check k p room)
    fine))

-- 21 to 25, 3, 5
unfoldable pub stand_check : Pool → WorkerNo → Check
stand_check p w = first (worker_check p w) (when (eqb (worker_of p w).label 0) (refuse 5 0) fine)

unfoldable pub advance_check : Pool → WorkerNo → ℕ → Check
advance_check p w room = first (stand_check p w) (line_check (worker_of p w).label (w.0 - 1) p room)

-- ---- the call, and the lent list afterwards

unfoldable pub advance_of : Pool → WorkerNo → List ℕ → Told
advance_of p w out = after_check (advance_check p w (length out)) p (line_of (worker_of p w).label (w.0 - 1) p)

-- a set's ids ascending from the list's start, and the rest of the list as it was
unfoldable pub handed : IdSet → List ℕ → List ℕ
handed s out = members_of s ++ drop (size_of s) out

-- a list that is written only where a check found nothing
unfoldable pub list_after_check : Check → List ℕ → List ℕ → List ℕ
list_after_check fine old new = new
list_after_check (refuse n place) old new = old

unfoldable pub list_after : Pool → WorkerNo → List ℕ → List ℕ
list_after p w out =
    list_after_check (advance_check p w (length out)) out
    (when (eqb (worker_of p w).label 32) (handed (set_at p (w.0 - 1)) out) out)

-- A worker's registers advanced alone, beside its advance in the whole record.
use Rattle.std.specs.Prelude.{◌≡◌, Bool, true, false, List, ℕ, ◌-◌, ◌≤◌, Option, None, is_some, unwrap_or}
use Rattle.idset.specs.Members.{member_of}
use Rattle.worker.specs.declared.Slot.{Slot}
use Rattle.worker.specs.declared.Worker.{Worker}
use Rattle.worker.specs.Steps.{own, step_of}
use Rattle.pool.specs.declared.Pool.{Pool}
use Rattle.pool.specs.declared.WorkerNo.{WorkerNo}
use Rattle.pool.specs.Record.{worker_at, set_at}
use Rattle.pool.specs.Sound.{sound_of}
use Rattle.pool.specs.Checks.{worker_of}
use Rattle.pool.specs.Steps.{posted_here, slot_here, puts, advance_of, list_after}

-- worker k's registers, with MAXG, the posted id of guard i, whether it is in the worker's set, and slot i beside them. At 4, 12 and 31
-- none but MAXG is read, so at 12, where there may be no guard i, any values do
abbrev pub alone : Pool → ℕ → Option Worker
alone p k = step_of (worker_at p k) p.maxg (posted_here p k) (member_of (set_at p k) (posted_here p k)) (slot_here p k)

-- what the lent form leaves behind the reference
abbrev pub left_alone : Pool → ℕ → Worker
left_alone p k = unwrap_or (alone p k) (worker_at p k)

-- the lent form says that it moved; the advance answers the label that it came to, and leaves its worker in the record and nothing else
-- changed, the lent list included
pub record Agree (p : Pool) (w : WorkerNo) (out : List ℕ) : Type 0 where
  pub applies : is_some (alone p (w.0 - 1)) ≡ true
  pub advanced : advance_of p w out ≡ puts (w.0 - 1) (left_alone p (w.0 - 1)) p
  pub worker : worker_of (advance_of p w out).pool w ≡ left_alone p (w.0 - 1)
  pub list : list_after p w out ≡ out

-- at its seven labels the lent form is the advance, and at any other it changes nothing and says so
pub record Lent : Type 0 where
  pub own_labels : (p : Pool) (w : WorkerNo) (out : List ℕ) → sound_of p ≡ true → 1 ≤ w.0 → w.0 ≤ p.w → own (worker_of p w).label ≡ true → Agree p w out
  pub other_labels : (x : Worker) (maxg posted : ℕ) (member : Bool) (slot : Slot) → own x.label ≡ false → step_of x maxg posted member slot ≡ None
  pub unmoved : (x : Worker) (maxg posted : ℕ) (member : Bool) (slot : Slot) → own x.label ≡ false → unwrap_or (step_of x maxg posted member slot) x ≡ x

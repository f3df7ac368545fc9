-- One advance of a worker at the labels that store to nothing but its own label and registers. `posted` and `slot` are those of
-- guard i, and `member` says whether the posted id is in the worker's set.
use Rattle.std.specs.Prelude.{ℕ, ◌+◌, Bool, not, Option, Some, None, ◌&&◌, ◌||◌, ltb, leb, eqb}
use Rattle.basics.specs.Pick.{when}
use Rattle.worker.specs.declared.Slot.{Slot}
use Rattle.worker.specs.declared.Worker.{Worker}
use Rattle.worker.specs.Registers.{largest, to, with_i, with_v, with_h, with_attempts, with_max}

-- both parts count: the id alone may have come back
abbrev pub same_slot : Slot → Slot → Bool
same_slot s t = eqb s.id t.id && eqb s.version t.version

-- max is MAXG; where guard i lies above it, MAXG has to rise
abbrev pub at4 : Worker → ℕ → Worker
at4 x maxg = to (when (ltb maxg x.i) 5 6) (with_max maxg x)

-- MAXG as it now is: a guard may have been hired since the last visit
abbrev pub at12 : Worker → ℕ → Worker
at12 x maxg = to (when (leb x.i maxg) 13 32) x

-- no failed attempts yet at this guard
abbrev pub at13 : Worker → Slot → Worker
at13 x slot = to 15 (with_h slot (with_attempts 0 x))

-- v is the posted id, and only a buffer of the set is put into the slot
abbrev pub at15 : Worker → ℕ → Bool → Worker
at15 x posted member = to (when (not (eqb posted 0) && member) 18 28) (with_v posted x)

-- one more failed attempt
abbrev pub failed : Worker → Worker
failed x = with_attempts (x.attempts + 1) x

-- the third ends the attempts
abbrev pub last_failed : Worker → Bool
last_failed x = eqb (failed x).attempts 3

-- with h kept; before it the slot is read anew
unfoldable pub at22 : Worker → Slot → Worker
at22 x slot = when (last_failed x) (to 31 (failed x)) (to 25 (with_h slot (failed x)))

-- no further attempt where the slot came to hold a buffer by the second failure, or where v is posted no more
abbrev pub at25 : Worker → ℕ → Worker
at25 x posted = to (when (eqb x.attempts 2 && not (eqb x.h.id 0) || not (eqb x.v posted)) 31 18) x

-- the next guard
abbrev pub at31 : Worker → Worker
at31 x = to 12 (with_i (x.i + 1) x)

-- the labels at which this step applies
unfoldable pub own : ℕ → Bool
own l = eqb l 4 || eqb l 12 || eqb l 13 || eqb l 15 || eqb l 22 || eqb l 25 || eqb l 31

-- The step for any numbers whatever, and nothing at any other label. A count at the largest number cannot go up; no sound record has one.
unfoldable pub step_of : Worker → ℕ → ℕ → Bool → Slot → Option Worker
step_of x maxg posted member slot =
    when (eqb x.label 4) (Some (at4 x maxg))
    (when (eqb x.label 12) (Some (at12 x maxg))
    (when (eqb x.label 13) (Some (at13 x slot))
    (when (eqb x.label 15) (Some (at15 x posted member))
    (when (eqb x.label 22) (when (ltb x.attempts largest) (Some (at22 x slot)) None)
    (when (eqb x.label 25) (Some (at25 x posted))
    (when (eqb x.label 31) (when (ltb x.i largest) (Some (at31 x)) None)
    None))))))

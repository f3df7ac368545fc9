-- The lengths of a record's arrays. A declared record has them by its type, and a definition's lists do not: in a list that is too short, what is
-- stored past its end is lost, and a sound record could be so.
use Rattle.std.specs.Prelude.{◌≡◌, List, [], ℕ, ◌<◌, length, get_or}
use Rattle.idset.specs.declared.IdSet.{IdSet}
use Rattle.pool.specs.declared.Pool.{Pool}
use Rattle.pool.specs.Make.{make_of}
use Rattle.rules.specs.Calls.{Call, call}

-- the four words of marks of each set
pub record FourWords (sets : List IdSet) : Type 0 where
  pub words : (k : ℕ) → k < 8 → length (get_or sets k (record { words = [] })).words ≡ 4

pub record Shaped (p : Pool) : Type 0 where
  pub taken : length p.taken ≡ 32
  pub employers : length p.employer ≡ 32
  pub posted : length p.posted ≡ 32
  pub slot_ids : length p.slot_id ≡ 32
  pub slot_versions : length p.slot_version ≡ 32
  pub states : length p.states ≡ 256
  pub workers : length p.workers ≡ 8
  pub sets : length p.sets ≡ 8
  pub marks : FourWords p.sets

-- made or refused
abbrev pub MadeShaped : Type 0
MadeShaped = (w g b : ℕ) → Shaped (make_of w g b).pool

-- whatever the record, sound or not
abbrev pub KeepsShape : Type 0
KeepsShape = (c : Call) (p : Pool) → Shaped p → Shaped (call c p).pool

-- From what the code of a label found to the line of the table. Assumes nothing.
use mathlib.Core.Path.{◌≡◌}
use mathlib.Core.Bool.{Bool, true, false}
use Prim.Native.Nat.{ℕ}
use lib.Dec.{eqb}
use Rattle.basics.specs.Pick.{when, unless}
use Rattle.pool.specs.declared.Pool.{Pool}
use Rattle.pool.specs.Answers.{fine, refuse}
use Rattle.pool.specs.Steps.{largest_version, slot_here, unchanged, exchange, line18, collects, collect, line28, goes, version_check}

-- a line that stores asks for the slot's version
pub stores_check : (k : ℕ) (p : Pool) (t : Bool) → t ≡ true
    → when (eqb (slot_here p k).version largest_version) (refuse 12 0) fine ≡ version_check t k p
stores_check k p t e = rw e

-- and one that does not is not refused
pub stores_none : (k : ℕ) (p : Pool) (t : Bool) → t ≡ false → version_check t k p ≡ fine
unfolding when
stores_none k p t e = rw e

module _ (k : ℕ) (p : Pool) where
  pub exchanges : unchanged k p ≡ true → exchange k p ≡ line18 k p
  unfolding line18 unless
  exchanges e = rw e

  pub fails : unchanged k p ≡ false → goes k 22 p ≡ line18 k p
  unfolding line18 unless
  fails e = rw e

  pub collects_it : collects k p ≡ true → collect k p ≡ line28 k p
  unfolding line28 unless
  collects_it e = rw e

  pub passes : collects k p ≡ false → goes k 31 p ≡ line28 k p
  unfolding line28 unless
  passes e = rw e

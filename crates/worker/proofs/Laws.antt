-- What the step comes to, label by label. Assumes nothing.
use Prim.Native.Nat.{ℕ, ◌≤◌, ◌<◌}
use mathlib.Core.Path.{◌≡◌, refl, sym, ap, ◌∙◌}
use Rattle.std.specs.Prelude.{Some, None}
use mathlib.Core.Bool.{Bool, true, false, true≢false}
use lib.Dec.{eqb}
use borrow.Author.Tests.{ne_eqb}
use Rattle.basics.proofs.Picks.{picks}
use Rattle.worker.specs.declared.Slot.{Slot}
use Rattle.worker.specs.declared.Worker.{Worker}
use Rattle.worker.specs.Registers.{largest}
use Rattle.worker.specs.Steps.{at4, at12, at13, at15, at22, at25, at31, own, step_of}

-- a label that is not the step's is none of those that are
pub not_own : (l n : ℕ) → own l ≡ false → own n ≡ true → eqb l n ≡ false
not_own l n other mine = ne_eqb l n (λ e. true≢false (sym mine ∙ ap own (sym e) ∙ other))

module _ (x : Worker) (maxg posted : ℕ) (member : Bool) (slot : Slot) where
  pub step_4 : x.label ≡ 4 → step_of x maxg posted member slot ≡ Some (at4 x maxg)
  unfolding step_of
  step_4 e = sym (rw e (search picks depth 12))

  pub step_12 : x.label ≡ 12 → step_of x maxg posted member slot ≡ Some (at12 x maxg)
  unfolding step_of
  step_12 e = sym (rw e (search picks depth 12))

  pub step_13 : x.label ≡ 13 → step_of x maxg posted member slot ≡ Some (at13 x slot)
  unfolding step_of
  step_13 e = sym (rw e (search picks depth 12))

  pub step_15 : x.label ≡ 15 → step_of x maxg posted member slot ≡ Some (at15 x posted member)
  unfolding step_of
  step_15 e = sym (rw e (search picks depth 12))

  pub step_22 : x.label ≡ 22 → x.attempts < largest → step_of x maxg posted member slot ≡ Some (at22 x slot)
  unfolding step_of
  step_22 e room = sym (rw e (search picks depth 12))

  pub step_25 : x.label ≡ 25 → step_of x maxg posted member slot ≡ Some (at25 x posted)
  unfolding step_of
  step_25 e = sym (rw e (search picks depth 12))

  pub step_31 : x.label ≡ 31 → x.i < largest → step_of x maxg posted member slot ≡ Some (at31 x)
  unfolding step_of
  step_31 e room = sym (rw e (search picks depth 12))

  -- the two counts that cannot go up
  pub full_22 : x.label ≡ 22 → largest ≤ x.attempts → step_of x maxg posted member slot ≡ None
  unfolding step_of
  full_22 e full = sym (rw e (search picks depth 12))

  pub full_31 : x.label ≡ 31 → largest ≤ x.i → step_of x maxg posted member slot ≡ None
  unfolding step_of
  full_31 e full = sym (rw e (search picks depth 12))

  -- any other label
  pub step_other : own x.label ≡ false → step_of x maxg posted member slot ≡ None
  unfolding step_of own
  step_other other =
      let apart : (n : ℕ) → own n ≡ true → eqb x.label n ≡ false = λ n mine. not_own x.label n other mine in
      sym (search (picks, apart 4 refl, apart 12 refl, apart 13 refl, apart 15 refl, apart 22 refl, apart 25 refl, apart 31 refl) depth 12)

pub ruleset steps = (step_4, step_12, step_13, step_15, step_22, step_25, step_31, full_22, full_31)

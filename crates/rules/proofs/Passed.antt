-- A check finds nothing exactly where the record and the numbers are as the paper wants them, and what its refusals can be. Assumes nothing.
use mathlib.Core.Path.{◌≡◌}
use mathlib.Core.Bool.{Bool}
use Prim.Native.Nat.{ℕ, zero, suc, ◌≤◌, ◌<◌}
use native.Mathlib.Omega.{arith}
use borrow.Author.Tests.{le-ltb, lt-leb, eq-eqb, ne_eqb}
use Rattle.basics.specs.Pick.{when, unless}
use Rattle.basics.proofs.Picks.{when_both, unless_both}
use Rattle.pool.specs.declared.Pool.{Pool}
use Rattle.pool.specs.declared.WorkerNo.{WorkerNo}
use Rattle.pool.specs.declared.GuardNo.{GuardNo}
use Rattle.pool.specs.Answers.{Check, fine, refuse, first, first_below}
use Rattle.pool.specs.Record.{employer_at}
use Rattle.pool.specs.Sound.{sound_check}
use Rattle.pool.specs.Checks.{worker_check, begin_check, guard_check, id_check}
use Rattle.pool.specs.Steps.{stand_check}
use Rattle.pool.proofs.Checked.{sound_passes, Begun, Named, Employed, Buffer}
use Rattle.rules.specs.Sentences.{HasWorker, At, Idle, Employs, IsBuffer}
use Rattle.rules.proofs.Outcomes.{fine_apart, same_number}
use Rattle.rules.proofs.Broken.{rule_low}

-- ---- what the refusals can be

-- a check whose refusals have numbers as P says
abbrev pub Numbers : (ℕ → Type 0) → Check → Type 0
Numbers P c = (n place : ℕ) → c ≡ refuse n place → P n

module _ (P : ℕ → Type 0) where
  pub of_fine : Numbers P fine
  of_fine n place h = absurd (fine_apart h)

  of_refuse : (r at : ℕ) → P r → Numbers P (refuse r at)
  of_refuse r at f n place h = let e = same_number h in rw (← e) f

  pub of_first : (a b : Check) → Numbers P a → Numbers P b → Numbers P (first a b)
  unfolding first
  of_first fine b f g = g
  of_first (refuse r at) b f g = f

  pub of_below : (c : ℕ → Check) → ((k : ℕ) → Numbers P (c k)) → (n : ℕ) → Numbers P (first_below n c)
  unfolding first_below
  of_below c f zero = of_fine
  of_below c f (suc n) = of_first (first_below n c) (c n) (of_below c f n) (f n)

  pub of_unless : (t : Bool) (r at : ℕ) (b : Check) → P r → Numbers P b → Numbers P (unless t (refuse r at) b)
  of_unless t r at b l f = unless_both (Numbers P) t _ b (λ e. of_refuse r at l) (λ e. f)

  pub of_when : (t : Bool) (r at : ℕ) (b : Check) → P r → Numbers P b → Numbers P (when t (refuse r at) b)
  of_when t r at b l f = when_both (Numbers P) t _ b (λ e. of_refuse r at l) (λ e. f)

abbrev AtMost : ℕ → ℕ → Type 0
AtMost m n = n ≤ m

-- up to m, but for those of soundness, which come first and are numbered from 21 on
abbrev UpTo : ℕ → ℕ → Type 0
UpTo m n = m < n → 21 ≤ n

-- the checks of a record, a worker and a guard come before 8, and that of an id before 10
module _ (p : Pool) where
  pub sound_up : Numbers (UpTo 7) (sound_check p)
  sound_up n place h b = rule_low p h

  worker_up : (w : WorkerNo) → Numbers (UpTo 7) (worker_check p w)
  unfolding worker_check
  worker_up w =
      of_first (UpTo 7) _ _ sound_up
      (of_when (UpTo 7) _ 3 0 _ (λ b. omega arith) (of_when (UpTo 7) _ 3 0 _ (λ b. omega arith) (of_fine (UpTo 7))))

  pub begin_up : (w : WorkerNo) → Numbers (UpTo 7) (begin_check p w)
  unfolding begin_check
  begin_up w = of_first (UpTo 7) _ _ (worker_up w) (of_unless (UpTo 7) _ 4 0 _ (λ b. omega arith) (of_fine (UpTo 7)))

  pub stand_up : (w : WorkerNo) → Numbers (UpTo 7) (stand_check p w)
  unfolding stand_check
  stand_up w = of_first (UpTo 7) _ _ (worker_up w) (of_when (UpTo 7) _ 5 0 _ (λ b. omega arith) (of_fine (UpTo 7)))

  pub guard_up : (w : WorkerNo) (g : GuardNo) → Numbers (AtMost 7) (guard_check p w g)
  unfolding guard_check
  guard_up w g = of_when (AtMost 7) _ 6 0 _ (omega arith) (of_unless (AtMost 7) _ 7 0 _ (omega arith) (of_fine (AtMost 7)))

  pub id_up : (id place : ℕ) → Numbers (AtMost 9) (id_check p id place)
  unfolding id_check
  id_up id place = of_when (AtMost 9) _ 9 place _ (omega arith) (of_when (AtMost 9) _ 9 place _ (omega arith) (of_fine (AtMost 9)))

-- ---- the checks that find nothing

module _ (p : Pool) where
  pub worker_passes_lem : (w : ℕ) → HasWorker p w → worker_check p (record { 0 = w }) ≡ fine
  unfolding worker_check first when
  worker_passes_lem w a = rw (sound_passes p a.sound, le-ltb w 1 a.some, le-ltb p.w w a.most)

  pub idle_passes : (w : ℕ) → Idle p w → begin_check p (record { 0 = w }) ≡ fine
  unfolding begin_check first unless
  idle_passes w a = rw (worker_passes_lem w a.worker, a.label)

  pub stand_passes : (w l : ℕ) → At p w l → (l ≡ 0 → ⊥) → stand_check p (record { 0 = w }) ≡ fine
  unfolding stand_check first when
  stand_passes w l a busy = rw (worker_passes_lem w a.worker, a.label, ne_eqb l 0 busy)

  pub guard_passes : (w g : ℕ) → Employs p w g → guard_check p (record { 0 = w }) (record { 0 = g }) ≡ fine
  unfolding guard_check unless when
  guard_passes w g a = rw (lt-leb p.g g a.below, eq-eqb (employer_at p g) w a.employer)

  pub id_passes : (id place : ℕ) → IsBuffer p id → id_check p id place ≡ fine
  unfolding id_check when
  id_passes id place a = rw (le-ltb id 1 a.some, le-ltb p.b id a.most)

-- and what they tell, in the words of the sentences
module _ {p : Pool} where
  pub has_worker : {w : ℕ} → Named p (record { 0 = w }) → HasWorker p w
  has_worker a = record { sound = a.sound; some = a.some; most = a.most }

  pub idle_worker : {w : ℕ} → Begun p (record { 0 = w }) → Idle p w
  idle_worker a = record { worker = has_worker a.worker; label = a.idle }

  pub employs : {w g : ℕ} → Employed p (record { 0 = w }) (record { 0 = g }) → Employs p w g
  employs a = record { below = a.guard_below; employer = a.employed }

  pub is_buffer : {b : ℕ} → Buffer p b → IsBuffer p b
  is_buffer a = record { some = a.some; most = a.most }

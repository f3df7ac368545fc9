-- The lent form and the whole-record step agree at the seven labels. Assumes nothing.
use mathlib.Core.Path.{◌≡◌, refl, sym, ap, ◌∙◌}
use mathlib.Core.Bool.{true, false, true≢false}
use mathlib.Core.List.{List, [], ◌∷◌}
use Prim.Native.Nat.{ℕ, zero, suc, ◌-◌, ◌≤◌}
use native.Mathlib.Omega.{arith}
use lib.Dec.{eqb}
use lib.ListN.{get_or, set, length}
use borrow.Author.Tests.{ne_eqb}
use Rattle.basics.specs.Pick.{when}
use Rattle.worker.specs.declared.Worker.{Worker}
use Rattle.std.specs.Prelude.{Option, Some, is_some, unwrap_or}
use Rattle.worker.specs.Registers.{no_worker}
use Rattle.worker.specs.Steps.{own}
use Rattle.worker.proofs.Laws.{step_4, step_12, step_13, step_15, step_22, step_25, step_31, step_other}
use Rattle.pool.specs.declared.Pool.{Pool}
use Rattle.pool.specs.declared.WorkerNo.{WorkerNo}
use Rattle.pool.specs.Answers.{Told, fine, first, after_check}
use Rattle.pool.specs.Record.{worker_at}
use Rattle.pool.specs.Sound.{sound_of}
use Rattle.pool.specs.Checks.{worker_of}
use Rattle.pool.specs.Steps.{puts, line_of, line_check, stand_check, advance_check, advance_of, list_after_check, list_after}
use Rattle.pool.specs.ForProofs.Ready.{Stands}
use Rattle.pool.proofs.Standing.{ready, last_label}
use Rattle.rules.specs.Lent.{alone, left_alone, Agree, Lent}
use Rattle.rules.proofs.EachLine.{by_line}
use Rattle.rules.proofs.Passed.{stand_passes}

-- a busy worker has an entry, so what is put there is found there
put_there : (l : List Worker) (k : ℕ) (x : Worker) → ((get_or l k no_worker).label ≡ 0 → ⊥) → get_or (set l k x) k no_worker ≡ x
put_there [] k x busy = absurd (busy refl)
put_there (y ∷ l) zero x busy = refl
put_there (y ∷ l) (suc k) x busy = put_there l k x busy

-- ---- the line of the label

module _ (p : Pool) (k : ℕ) (s : Stands p k) (mine : own (worker_at p k).label ≡ true) where
  abbrev l : ℕ
  l = (worker_at p k).label

  other : (n : ℕ) → own n ≡ false → l ≡ n → ⊥
  other n not_own e = true≢false (sym mine ∙ ap own e ∙ not_own)

  abbrev Taken : Told → Type 0
  Taken t = (is_some (alone p k) ≡ true) × (t ≡ puts k (left_alone p k) p)

  taken : (x : Worker) → alone p k ≡ Some x → Taken (puts k x p)
  taken x e = (ap is_some e, ap (λ (z : Option Worker). puts k (unwrap_or z (worker_at p k)) p) (sym e))

  line_taken : Taken (line_of l k p)
  unfolding own
  line_taken =
      by_line Taken l k p (
      record {
        at2 = λ e. absurd (other 2 refl e);
        at4 = λ e. taken _ (step_4 _ _ _ _ _ e);
        at5 = λ e. absurd (other 5 refl e);
        at6 = λ e. absurd (other 6 refl e);
        at7 = λ e. absurd (other 7 refl e);
        at8 = λ e. absurd (other 8 refl e);
        at9 = λ e. absurd (other 9 refl e);
        at10 = λ e. absurd (other 10 refl e);
        at12 = λ e. taken _ (step_12 _ _ _ _ _ e);
        at13 = λ e. taken _ (step_13 _ _ _ _ _ e);
        at15 = λ e. taken _ (step_15 _ _ _ _ _ e);
        at18 = λ e. absurd (other 18 refl e);
        at22 = λ e. taken _ (step_22 _ _ _ _ _ e (omega (arith, (ready p k 22 s e refl).attempts_most)));
        at25 = λ e. taken _ (step_25 _ _ _ _ _ e);
        at28 = λ e. absurd (other 28 refl e);
        at31 = λ e. taken _ (step_31 _ _ _ _ _ e (omega (arith, (ready p k 31 s e refl).i_below)));
        at32 = λ none. absurd (other 32 refl (last_label s none));
      })

  not_here : (n : ℕ) → own n ≡ false → eqb l n ≡ false
  not_here n not_own = ne_eqb l n (other n not_own)

  none_refused : (room : ℕ) → line_check l k p room ≡ fine
  unfolding own line_check when
  none_refused room = rw (not_here 18 refl, not_here 28 refl, not_here 32 refl)

-- ---- the call

module _ (p : Pool) (w : WorkerNo) (out : List ℕ) (sound : sound_of p ≡ true) (some : 1 ≤ w.0) (most : w.0 ≤ p.w) (mine : own (worker_of p w).label ≡ true) where
  abbrev k : ℕ
  k = w.0 - 1

  busy : (worker_at p k).label ≡ 0 → ⊥
  unfolding own
  busy e = true≢false (sym mine ∙ ap own e)

  stood : Stands p k
  stood = record { sound = sound; k_below = omega arith; busy = busy }

  may_stand : stand_check p w ≡ fine
  may_stand = stand_passes p w.0 _ (record { worker = record { sound = sound; some = some; most = most }; label = refl }) busy

  may_advance : advance_check p w (length out) ≡ fine
  unfolding advance_check first
  may_advance = rw (may_stand, none_refused p k stood mine (length out))

  is_advance : advance_of p w out ≡ puts k (left_alone p k) p
  unfolding advance_of after_check
  is_advance = rw may_advance (line_taken p k stood mine).1

  worker_is : worker_of (advance_of p w out).pool w ≡ left_alone p k
  unfolding puts
  worker_is = rw is_advance (put_there p.workers k (left_alone p k) busy)

  list_is : list_after p w out ≡ out
  unfolding own list_after list_after_check when
  list_is = rw (may_advance, not_here p k stood mine 32 refl)

  agree : Agree p w out
  agree = record { applies = (line_taken p k stood mine).0; advanced = is_advance; worker = worker_is; list = list_is }

pub lent : Lent
lent = record {
  own_labels = agree;
  other_labels = step_other;
  unmoved = λ x maxg posted member slot other. ap (λ (z : Option Worker). unwrap_or z x) (step_other x maxg posted member slot other);
}

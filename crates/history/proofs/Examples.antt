-- The example runs, computed from the making on, and the theorem used on them. Assumes nothing.
use mathlib.Core.Path.{◌≡◌, refl, ap, ◌∙◌}
use mathlib.Core.Bool.{true}
use mathlib.Core.List.{List}
use native.Mathlib.Omega.{arith}
use Rattle.pool.specs.declared.Pool.{Pool}
use Rattle.pool.specs.Record.{blank}
use Rattle.pool.specs.Sound.{sound_of}
use Rattle.rules.specs.Calls.{Call}
use Rattle.rules.specs.Cases.{advances, case1, case2, case5, case6, case7}
use Rattle.rules.proofs.Fresh.{made_sound}
use Rattle.rules.proofs.SoundRuns.{sound_after, sound_seen, sound_after_lem, sound_seen_lem, running}
use Rattle.history.specs.Counts.{in_slots, in_sets}
use Rattle.history.specs.History.{History, history_after, fresh}
use Rattle.history.specs.Examples.{left_by, told_by, run5, before_empty, run6, run7, before_back, after_back, HeldAndKept, HeldByAnother, KeptBack}
use Rattle.history.proofs.Computing.{hearing}
use Rattle.history.proofs.Runs.{every_run}

-- what the runs compute by
playing : Unit {0}
unfolding hearing running advances case1 case2 case5 case6 case7 run5 before_empty run6 run7 before_back after_back
playing = tt

start_sound : sound_of (blank 2 2 3) ≡ true
start_sound = made_sound 2 2 3 refl

module _ {A : Type 0} (calls : List Call) {a : A} where
  -- the same of the run from a sound record, which is quicker to compute
  tells_so : (f : History → A) → f (history_after fresh (sound_seen calls (blank 2 2 3))) ≡ a → f (told_by calls) ≡ a
  tells_so f e = ap (λ es. f (history_after fresh es)) (sound_seen_lem calls (blank 2 2 3) start_sound) ∙ e

  leaves_so : (f : Pool → A) → f (sound_after calls (blank 2 2 3)) ≡ a → f (left_by calls) ≡ a
  leaves_so f e = ap f (sound_after_lem calls (blank 2 2 3) start_sound) ∙ e

pub held_and_kept : HeldAndKept
unfolding playing
held_and_kept =
    record {
      five_before = tells_so before_empty (λ h. h.posts.holds 0) refl;
      five = tells_so run5 (λ h. h.posts.holds 0) refl;
      five_back = tells_so run5 (λ h. h.back) refl;
      six = tells_so run6 (λ h. h.posts.holds 0) refl;
      six_back = tells_so run6 (λ h. h.back) refl;
      seven = tells_so run7 (λ h. h.posts.holds 0) refl;
      seven_back = tells_so run7 (λ h. h.back) refl;
    }

pub held_by_another : HeldByAnother
unfolding playing
held_by_another =
    record {
      held_before = tells_so before_back (λ h. h.posts.holds 1) refl;
      held_after = tells_so after_back (λ h. h.posts.holds 1) refl;
      given = tells_so after_back (λ h. h.given) refl;
      back = tells_so after_back (λ h. h.back) refl;
      slots = leaves_so after_back (λ p. in_slots p) refl;
      sets = leaves_so after_back (λ p. in_sets p) refl;
      free = tells_so after_back (λ h. h.states 1) refl;
      leaving = tells_so after_back (λ h. h.states 2) refl;
      kept = tells_so after_back (λ h. h.states 3) refl;
    }

pub kept_back : KeptBack
kept_back =
    let f = every_run 2 2 3 refl after_back in
    record {
      first = λ out n answer handed. (every_run 2 2 3 refl before_empty).safe 2 out n answer 0 1 (omega arith) handed held_and_kept.five_before;
      another = λ out n answer handed. (every_run 2 2 3 refl before_back).safe 1 out n answer 1 3 (omega arith) handed held_by_another.held_before;
      free_place = f.place 1 (omega arith) (omega arith);
      set_place = f.place 2 (omega arith) (omega arith);
      slot_place = f.place 3 (omega arith) (omega arith);
      counts = omega (arith, f.counts, held_by_another.given, held_by_another.back);
    }

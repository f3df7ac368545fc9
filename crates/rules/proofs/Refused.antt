-- A refused call hands the record back as it was, and the lent list. Assumes nothing.
use mathlib.Core.Path.{◌≡◌, refl}
use mathlib.Core.List.{List}
use Prim.Native.Nat.{ℕ}
use lib.ListN.{length}
use Rattle.basics.proofs.Picks.{when_both, unless_both}
use Rattle.worker.specs.declared.Worker.{Worker}
use Rattle.pool.specs.declared.Pool.{Pool}
use Rattle.pool.specs.declared.WorkerNo.{WorkerNo}
use Rattle.pool.specs.Answers.{Said, Check, fine, refuse, Told, after_check, accepted, none_found, fired, posted, guard, back, refused}
use Rattle.pool.specs.Checks.{begin_check, fire_check, post_check, give_up_check, take_check, ask_check}
use Rattle.pool.specs.Begins.{hire_of, fire_of, post_of, give_up_of, take_of, ask_of}
use Rattle.pool.specs.Steps.{puts, ends, line2, line18, line28, line_of, advance_check, advance_of, list_after_check, list_after}
use Rattle.rules.specs.Calls.{Call, hiring, firing, posting, giving_up, taking, asking, advancing, call, lent_to, list_of}
use Rattle.rules.specs.Refused.{RefusedUnchanged}
use Rattle.rules.proofs.Outcomes.{apart, accepted_apart, after_both}
use Rattle.rules.proofs.EachLine.{by_line}

-- ---- an advance: no line answers a refusal

abbrev pub Answered : Told → Type 0
Answered t = (n place : ℕ) → t.answer ≡ refused n place → ⊥

module _ (k : ℕ) (p : Pool) where
  puts_answered : (x : Worker) → Answered (puts k x p)
  unfolding puts
  puts_answered x n place h = apart (cc)

  ends_answered : (a : Said) → ((n place : ℕ) → a ≡ refused n place → ⊥) → Answered (ends k a p)
  unfolding ends
  ends_answered a h = h

pub lines_answered : (l k : ℕ) (p : Pool) → Answered (line_of l k p)
unfolding line2 line18 line28
lines_answered l k p =
    by_line Answered l k p (
    record {
      at2 = λ e. unless_both Answered _ _ _ (λ t. puts_answered k _ _)
          (λ t. when_both Answered _ _ _ (λ t. ends_answered k _ none_found (λ n place h. apart (cc))) (λ t. puts_answered k _ _));
      at4 = λ e. puts_answered k _ _;
      at5 = λ e. puts_answered k _ _;
      at6 = λ e. ends_answered k _ (guard _) (λ n place h. apart (cc));
      at7 = λ e. puts_answered k _ _;
      at8 = λ e. ends_answered k _ fired (λ n place h. apart (cc));
      at9 = λ e. puts_answered k _ _;
      at10 = λ e. ends_answered k _ posted (λ n place h. apart (cc));
      at12 = λ e. puts_answered k _ _;
      at13 = λ e. puts_answered k _ _;
      at15 = λ e. puts_answered k _ _;
      at18 = λ e. unless_both Answered _ _ _ (λ t. puts_answered k _ _) (λ t. puts_answered k _ _);
      at22 = λ e. puts_answered k _ _;
      at25 = λ e. puts_answered k _ _;
      at28 = λ e. unless_both Answered _ _ _ (λ t. puts_answered k _ _) (λ t. puts_answered k _ _);
      at31 = λ e. puts_answered k _ _;
      at32 = λ e. ends_answered k _ (back _) (λ n place h. apart (cc));
    })

-- ---- the record

module _ {n place : ℕ} where
  -- an outcome that answers a refusal only where it leaves the record
  after_refused : (c : Check) (p : Pool) (d : Told) → (d.answer ≡ refused n place → d.pool ≡ p)
      → (after_check c p d).answer ≡ refused n place → (after_check c p d).pool ≡ p
  after_refused c p d f = after_both (λ t. t.answer ≡ refused n place → t.pool ≡ p) c p d (λ e. f) (λ m at e h. refl)

  accepted_not : (p q : Pool) → accepted ≡ refused n place → q ≡ p
  accepted_not p q h = absurd (accepted_apart h)

  refused_pool : (c : Call) (p : Pool) → (call c p).answer ≡ refused n place → (call c p).pool ≡ p
  unfolding call hire_of fire_of post_of give_up_of take_of ask_of advance_of
  refused_pool (hiring w) p = after_refused (begin_check p _) p _ (accepted_not p _)
  refused_pool (firing w g) p = after_refused (fire_check p _ _) p _ (accepted_not p _)
  refused_pool (posting w g b) p = after_refused (post_check p _ _ _) p _ (accepted_not p _)
  refused_pool (giving_up w ids) p = after_refused (give_up_check p _ ids) p _ (accepted_not p _)
  refused_pool (taking b) p = after_refused (take_check p _) p _ (accepted_not p _)
  refused_pool (asking w b) p = after_refused (ask_check p _ _) p _ (λ e. refl)
  refused_pool (advancing w out) p = after_refused (advance_check p _ (length out)) p _ (λ h. absurd (lines_answered _ _ p n place h))

-- ---- the list

list_after_refused : {n place : ℕ} (c : Check) (p : Pool) (d : Told) (old new : List ℕ) → Answered d → (after_check c p d).answer ≡ refused n place
    → list_after_check c old new ≡ old
unfolding after_check list_after_check
list_after_refused {n} {place} fine p d old new f h = absurd (f n place h)
list_after_refused (refuse m at) p d old new f h = refl

list_refused : {n place : ℕ} (p : Pool) (w : WorkerNo) (out : List ℕ) → (advance_of p w out).answer ≡ refused n place → list_after p w out ≡ out
unfolding advance_of list_after
list_refused p w out = list_after_refused (advance_check p w (length out)) p _ out _ (lines_answered _ _ p)

pub refused_unchanged : RefusedUnchanged
unfolding call list_of lent_to
refused_unchanged (hiring w) p n place h = record { pool = refused_pool (hiring w) p h; list = refl }
refused_unchanged (firing w g) p n place h = record { pool = refused_pool (firing w g) p h; list = refl }
refused_unchanged (posting w g b) p n place h = record { pool = refused_pool (posting w g b) p h; list = refl }
refused_unchanged (giving_up w ids) p n place h = record { pool = refused_pool (giving_up w ids) p h; list = refl }
refused_unchanged (taking b) p n place h = record { pool = refused_pool (taking b) p h; list = refl }
refused_unchanged (asking w b) p n place h = record { pool = refused_pool (asking w b) p h; list = refl }
refused_unchanged (advancing w out) p n place h = record { pool = refused_pool (advancing w out) p h; list = list_refused p _ out h }

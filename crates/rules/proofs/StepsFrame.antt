-- What an advance leaves as it was. Assumes nothing.
use mathlib.Core.Path.{◌≡◌, refl, sym, ap, ◌∙◌}
use mathlib.Core.Bool.{true}
use mathlib.Core.List.{List}
use Prim.Native.Nat.{ℕ, suc, ◌-◌, ◌≤◌}
use native.Mathlib.Omega.{arith}
use lib.ListN.{get_or, length}
use lib.Seq.{get_or-set_other}
use borrow.Author.Tests.{ne_eqb}
use Rattle.basics.specs.Pick.{when}
use Rattle.basics.proofs.Picks.{when_no, when_both, unless_both}
use Rattle.basics.proofs.Table.{table_at}
use Rattle.basics.proofs.Truth.{is_false}
use Rattle.idset.specs.Members.{member_of}
use Rattle.worker.specs.declared.Slot.{Slot}
use Rattle.pool.specs.declared.Pool.{Pool}
use Rattle.pool.specs.declared.WorkerNo.{WorkerNo}
use Rattle.pool.specs.Answers.{Check, fine, refuse, Told}
use Rattle.pool.specs.Record.{slot_at, state_of, worker_at, set_at, with_slot}
use Rattle.pool.specs.Checks.{worker_of}
use Rattle.pool.specs.Steps.{puts, ends, line2, line18, line28, freed, line_of, stand_check, advance_check, advance_of, list_after_check, list_after}
use Rattle.pool.specs.ForProofs.Ready.{Stands}
use Rattle.pool.proofs.Firsts.{first_both}
use Rattle.pool.proofs.Standing.{stands, last_label}
use Rattle.rules.specs.Calls.{call, list_of}
use Rattle.rules.specs.Frame.{Frame, AdvanceFrame}
use Rattle.rules.proofs.Outcomes.{after_both}
use Rattle.rules.proofs.EachLine.{by_line}

slot_other : (p : Pool) (i : ℕ) (s : Slot) (j : ℕ) → (j ≡ i → ⊥) → slot_at (with_slot i s p) j ≡ slot_at p j
slot_other p i s j other = rw (get_or-set_other p.slot_id i j s.id 0 other, get_or-set_other p.slot_version i j s.version 0 other)

-- each field of a frame: untouched, or replaced at one entry
ruleset frames = (refl, get_or-set_other, slot_other)

module _ (p : Pool) (k : ℕ) where
  abbrev Framed : Told → Type 0
  Framed t = Frame p k t.pool

  raised : (n m : ℕ) → (worker_at p k).label ≡ 5 → ((worker_at p k).label ≡ 5 → ⊥) → n ≡ m
  raised n m e other = absurd (other e)

  state_other : (worker_at p k).label ≡ 32 → (id : ℕ) → 1 ≤ id → id ≤ 256 → ((worker_at p k).label ≡ 32 → member_of (set_at p k) id ≡ true → ⊥)
      → get_or (freed (set_at p k) p) (id - 1) 0 ≡ state_of p id
  state_other e id some most other =
      let back : suc (id - 1) ≡ id = omega arith in
      table_at 256 _ (id - 1) 0 (omega arith)
      ∙ ap (λ (id : ℕ). when (member_of (set_at p k) id) 0 (state_of p id)) back
      ∙ sym (when_no (member_of (set_at p k) id) _ _ _ (is_false (member_of (set_at p k) id) (other e)) refl)

  lines_framed : Stands p k → Framed (line_of (worker_at p k).label k p)
  unfolding puts ends line2 line18 line28
  lines_framed s =
      by_line Framed (worker_at p k).label k p (
      record {
        at2 = λ e. unless_both Framed _ _ _ (λ t. search frames) (λ t. when_both Framed _ _ _ (λ t. search frames) (λ t. search frames));
        at4 = λ e. search frames;
        at5 = λ e. search (frames, raised);
        at6 = λ e. search frames;
        at7 = λ e. search frames;
        at8 = λ e. search frames;
        at9 = λ e. search frames;
        at10 = λ e. search frames;
        at12 = λ e. search frames;
        at13 = λ e. search frames;
        at15 = λ e. search frames;
        at18 = λ e. unless_both Framed _ _ _ (λ t. search frames) (λ t. search frames);
        at22 = λ e. search frames;
        at25 = λ e. search frames;
        at28 = λ e. unless_both Framed _ _ _ (λ t. search frames) (λ t. search frames);
        at31 = λ e. search frames;
        at32 = λ none. search (frames, state_other (last_label s none));
      })

-- ---- the call

list_same : (c : Check) (old new : List ℕ) → old ≡ new → list_after_check c old new ≡ old
unfolding list_after_check
list_same fine old new e = sym e
list_same (refuse m at) old new e = refl

module _ (p : Pool) (w : WorkerNo) (out : List ℕ) where
  pub record_framed : Frame p (w.0 - 1) (advance_of p w out).pool
  unfolding advance_of advance_check
  record_framed =
      after_both (Framed p (w.0 - 1)) (advance_check p w (length out)) p _
      (λ e. lines_framed p (w.0 - 1) (stands p w (first_both (stand_check p w) _ e).0))
      (λ n place e. search frames)

  pub list_framed : ((worker_of p w).label ≡ 32 → ⊥) → list_after p w out ≡ out
  unfolding list_after
  list_framed other = list_same (advance_check p w (length out)) out _ (when_no _ out _ out (ne_eqb (worker_of p w).label 32 other) refl)

pub advance_frame : AdvanceFrame
unfolding call list_of
advance_frame = record { record_framed = λ w out p. record_framed p _ out; list_framed = λ w out p. list_framed p _ out }

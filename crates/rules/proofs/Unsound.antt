-- What refusals 21 to 25 mean. Assumes nothing.
use mathlib.Core.Path.{◌≡◌, refl, sym, ap, subst⁻¹, ◌∙◌}
use mathlib.Core.Logic.{◌↔◌}
use mathlib.Core.Bool.{false, true≢false}
use Prim.Native.Nat.{ℕ, zero, suc, ◌≤◌, ◌<◌}
use native.Mathlib.Omega.{arith}
use Rattle.basics.proofs.Picks.{when_both}
use Rattle.pool.specs.declared.Pool.{Pool}
use Rattle.pool.specs.declared.WorkerNo.{WorkerNo}
use Rattle.pool.specs.Answers.{Said, yes, no, count, fault, Check, fine, refuse, first, is_fine, Told, after_check, answer_after, refused}
use Rattle.pool.specs.Sound.{sound_check, sound_of}
use Rattle.pool.specs.Checks.{worker_check}
use Rattle.pool.specs.Questions.{set_size_of, leaving_count_of, audit_from, audit_of}
use Rattle.pool.proofs.Checked.{sound_of_lem, sound_passes}
use Rattle.rules.specs.Calls.{Call, hiring, firing, posting, giving_up, taking, asking, advancing, call}
use Rattle.rules.specs.Unsound.{Names, Unsound, UnsoundSentences}
use Rattle.rules.proofs.Outcomes.{apart, fine_apart, accepted_apart, same_number, refuse_says, said_refused}
use Rattle.rules.proofs.Refused.{Answered, lines_answered}
use Rattle.rules.proofs.Broken.{says_sound, same_place}
use Rattle.rules.proofs.Rests.{named, named_low, checked, does, rests, rest_low}

-- ---- a check that asks soundness first, and then what is never refused from 21 on

high : (s rest : Check) → ((n place : ℕ) → rest ≡ refuse n place → n < 21) → (n place : ℕ) → 21 ≤ n → (first s rest ≡ refuse n place) ↔ (s ≡ refuse n place)
unfolding first
high fine rest low n place h = (λ e. let l = low n place e in absurd (omega arith), λ e. absurd (fine_apart e))
high (refuse m at) rest low n place h = (λ e. e, λ e. e)

module _ (p : Pool) where
  both : {A B C : Type 0} → A ↔ B → B ↔ C → A ↔ C
  both f g = (λ a. g.0 (f.0 a), λ c. f.1 (g.1 c))

  names : (rest : Check) → ((n place : ℕ) → rest ≡ refuse n place → n < 21) → (s : Said) → ((n place : ℕ) → (s ≡ refused n place) ↔ (first (sound_check p) rest ≡ refuse n place)) → Names p s
  names rest low s e n place h = both (e n place) (both (high (sound_check p) rest low n place h) ((says_sound p).fails n place))

  -- a call
  told_refused : (c : Check) (d : Told) → ((n place : ℕ) → d.answer ≡ refused n place → ⊥) → (n place : ℕ)
      → ((after_check c p d).answer ≡ refused n place) ↔ (c ≡ refuse n place)
  told_refused c d none n place = (said_refused c p d n place (none n place), refuse_says c p d)

  count_answered : (k n place : ℕ) → count k ≡ refused n place → ⊥
  count_answered k n place h = apart (cc)

  -- a question
  asked_refused : (c : Check) (s : Said) → ((n place : ℕ) → s ≡ refused n place → ⊥) → (n place : ℕ)
      → (answer_after c s ≡ refused n place) ↔ (c ≡ refuse n place)
  unfolding answer_after
  asked_refused fine s none n place = (λ h. absurd (none n place h), λ h. absurd (fine_apart h))
  asked_refused (refuse m at) s none n place = (λ h. cc, λ h. cc)

  does_answered : (c : Call) → Answered (does c p)
  unfolding does
  does_answered (hiring w) n place = accepted_apart
  does_answered (firing w g) n place = accepted_apart
  does_answered (posting w g b) n place = accepted_apart
  does_answered (giving_up w ids) n place = accepted_apart
  does_answered (taking b) n place = accepted_apart
  does_answered (asking w b) n place = when_both (λ s. s ≡ refused n place → ⊥) _ yes no (λ e h. apart (cc)) (λ e h. apart (cc))
  does_answered (advancing w out) n place = lines_answered _ _ p n place

  call_names : (c : Call) → Names p (call c p).answer
  call_names c =
      subst⁻¹ (λ (t : Told). Names p t.answer) (rests c p)
      (names (checked c p) (rest_low p c) _ (told_refused (first (sound_check p) (checked c p)) (does c p) (does_answered c)))

  size_names : (w : ℕ) → Names p (set_size_of p (record { 0 = w }))
  unfolding set_size_of worker_check
  size_names w =
      let no : WorkerNo = record { 0 = w } in
      names (named p no) (named_low p no) _ (asked_refused (worker_check p no) (count _) (count_answered _))

  count_names : Names p (leaving_count_of p)
  unfolding leaving_count_of
  count_names n place h = both (asked_refused (sound_check p) (count _) (count_answered _) n place) ((says_sound p).fails n place)

  audit_answered : (m id n place : ℕ) → audit_from p m id ≡ refused n place → ⊥
  unfolding audit_from
  audit_answered zero id n place = λ h. apart (cc)
  audit_answered (suc m) id n place =
      when_both (λ s. s ≡ refused n place → ⊥) _ (audit_from p m (suc id)) (fault id _) (λ e. audit_answered m (suc id) n place) (λ e h. apart (cc))

  audit_names : Names p (audit_of p)
  unfolding audit_of
  audit_names n place h = both (asked_refused (sound_check p) (audit_from p p.b 1) (audit_answered p.b 1) n place) ((says_sound p).fails n place)

  unsound_is : (c : Check) → sound_check p ≡ c → sound_of p ≡ false → Unsound p
  unsound_is fine e h = absurd (true≢false (sym (sound_of_lem p e) ∙ h))
  unsound_is (refuse n place) e h = record { rule = n; place = place; breaks = ((says_sound p).fails n place).0 e }

  is_unsound : Unsound p → sound_of p ≡ false
  unfolding sound_of
  is_unsound u = ap is_fine (((says_sound p).fails _ _).1 u.breaks)

pub unsound_sentences : UnsoundSentences
unsound_sentences =
    record {
      test = λ p. (says_sound p).fails;
      sound = λ p. (λ h. (says_sound p).passes.0 (sound_passes p h), λ k. sound_of_lem p ((says_sound p).passes.1 k));
      unsound = λ p. (unsound_is p (sound_check p) refl, is_unsound p);
      one = λ p n place m at b c.
          let e = sym (((says_sound p).fails n place).1 b) ∙ ((says_sound p).fails m at).1 c in
          (same_number e, same_place e);
      calls = λ c p. call_names p c;
      set_size = λ p w. size_names p w;
      leaving_count = λ p. count_names p;
      audit = λ p. audit_names p;
    }

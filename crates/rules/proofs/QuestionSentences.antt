-- The sentences on the questions. Assumes nothing.
use mathlib.Core.Path.{◌≡◌, refl, ap, ◌∙◌}
use Prim.Native.Nat.{ℕ, zero, suc, ◌+◌, ◌≤◌, ◌<◌}
use native.Mathlib.Decide.{ℕ_discrete}
use native.Mathlib.Omega.{arith}
use lib.Dec.{eqb}
use borrow.Author.Tests.{eq-eqb, ne_eqb, eqb-true, eqb-false}
use Rattle.basics.specs.Pick.{when}
use Rattle.basics.specs.Below.{one}
use Rattle.basics.proofs.Picks.{when_both}
use Rattle.basics.proofs.Truth.{by_order}
use Rattle.idset.specs.Members.{size_of}
use Rattle.pool.specs.declared.Pool.{Pool}
use Rattle.pool.specs.Answers.{Said, Check, fine, refuse, answer_after, clear, fault, refused}
use Rattle.pool.specs.Record.{state_of}
use Rattle.pool.specs.Sound.{sound_check}
use Rattle.pool.specs.Questions.{places_of, wanted_of, audit_from, audit_of, set_size_of, leaving_count_of}
use Rattle.pool.proofs.Checked.{sound_of_lem, sound_passes}
use Rattle.rules.specs.Sentences.{WellPlaced, QuestionSentences}
use Rattle.rules.proofs.Outcomes.{apart}
use Rattle.rules.proofs.Passed.{worker_passes_lem}

-- ---- a question that was answered

answered : (c : Check) (s x : Said) → ((n place : ℕ) → refused n place ≡ x → ⊥) → answer_after c s ≡ x → (c ≡ fine) × (s ≡ x)
unfolding answer_after
answered fine s x none h = (refl, h)
answered (refuse n place) s x none h = absurd (none n place h)

answers : (c : Check) (s x : Said) → c ≡ fine → s ≡ x → answer_after c s ≡ x
unfolding answer_after
answers c s x e h = rw e h

-- ---- the audit

module _ (p : Pool) where
  abbrev Right : ℕ → Type 0
  Right id = places_of p id ≡ wanted_of p id

  well_placed : (id : ℕ) → Right id → WellPlaced p id
  well_placed id e = record { leaving = λ s. e ∙ ap one (eq-eqb _ 2 s); other = λ s. e ∙ ap one (ne_eqb _ 2 s) }

  right : (id : ℕ) → WellPlaced p id → Right id
  right id a = go (ℕ_discrete (state_of p id) 2)
    where
      go : Dec (state_of p id ≡ 2) → Right id
      go (yes s) = rw (eq-eqb _ 2 s) (a.leaving s)
      go (no s) = rw (ne_eqb _ 2 s) (a.other s)

  -- of the n ids from id on
  clear_from : (n id : ℕ) → audit_from p n id ≡ clear → (j : ℕ) → id ≤ j → j < id + n → Right j
  unfolding audit_from
  clear_from zero id h j low high = absurd (omega arith)
  clear_from (suc n) id h j low high =
      when_both (λ s. s ≡ clear → Right j) (eqb (places_of p id) (wanted_of p id)) _ _
      (λ t q.
      by_order j id
      (λ l. let e : id ≡ j = omega arith in rw (← e) (eqb-true _ _ t))
      (λ l. clear_from n (suc id) q j (omega arith) (omega arith)))
      (λ t q. absurd (apart (cc))) h

  from_clear : (n id : ℕ) → ((j : ℕ) → id ≤ j → j < id + n → Right j) → audit_from p n id ≡ clear
  unfolding audit_from when
  from_clear zero id f = refl
  from_clear (suc n) id f = rw (eq-eqb _ _ (f id (omega arith) (omega arith))) (from_clear n (suc id) (λ j low high. f j (omega arith) (omega arith)))

  -- j is the lowest of them that is not right, and has m places
  record Lowest (n id j m : ℕ) : Type 0 where
    low : id ≤ j
    high : j < id + n
    places : places_of p j ≡ m
    wrong : Right j → ⊥
    lower : (i : ℕ) → id ≤ i → i < j → Right i

  fault_from : (n id j m : ℕ) → audit_from p n id ≡ fault j m → Lowest n id j m
  unfolding audit_from
  fault_from zero id j m h = absurd (apart (cc))
  fault_from (suc n) id j m h =
      when_both (λ s. s ≡ fault j m → Lowest (suc n) id j m) (eqb (places_of p id) (wanted_of p id)) _ _
      (λ t q.
      let r = fault_from n (suc id) j m q in
      record {
        low = omega (arith, r.low);
        high = omega (arith, r.high);
        places = r.places;
        wrong = r.wrong;
        lower = λ i a b. by_order i id (λ l. let e : id ≡ i = omega arith in rw (← e) (eqb-true _ _ t)) (λ l. r.lower i (omega arith) b);
      })
      (λ t q.
      let e : id ≡ j = cc in
      let f : places_of p id ≡ m = cc in
      record {
        low = omega arith;
        high = omega arith;
        places = rw (← e) f;
        wrong = λ r. eqb-false (places_of p id) (wanted_of p id) t (rw e r);
        lower = λ i a b. absurd (omega arith);
      }) h

  from_fault : (n id j m : ℕ) → Lowest n id j m → audit_from p n id ≡ fault j m
  unfolding audit_from when
  from_fault zero id j m r = absurd (omega (arith, r.low, r.high))
  from_fault (suc n) id j m r =
      by_order j id
      (λ l.
      let e : id ≡ j = omega (arith, r.low) in
      rw (e, ne_eqb _ _ r.wrong) (ap (fault j) r.places))
      (λ l.
      rw (eq-eqb _ _ (r.lower id (omega arith) l))
      (from_fault n (suc id) j m (
      record { low = l; high = omega (arith, r.high); places = r.places; wrong = r.wrong; lower = λ i a b. r.lower i (omega arith) b })))

pub question_sentences : QuestionSentences
unfolding set_size_of size_of leaving_count_of audit_of
question_sentences =
    record {
      set_size = λ p w a. answers _ _ _ (worker_passes_lem p w a) refl;
      leaving_count = λ p h. answers _ _ _ (sound_passes p h) refl;
      audit_clear = λ p. (
        λ h.
            let a = answered (sound_check p) _ clear (λ n place q. apart (cc)) h in
            (sound_of_lem p a.0, λ id b. well_placed p id (clear_from p p.b 1 a.1 id b.some (omega (arith, b.most)))),
        λ c. answers _ _ _ (sound_passes p c.0) (from_clear p p.b 1 (λ j low high. right p j (c.1 j (record { some = low; most = omega arith })))),
      );
      audit_fault = λ p id n. (
        λ h.
            let a = answered (sound_check p) _ (fault id n) (λ m place q. apart (cc)) h in
            let r = fault_from p p.b 1 id n a.1 in (
              sound_of_lem p a.0,
              record { some = r.low; most = omega (arith, r.high) },
              r.places,
              λ q. r.wrong (right p id q),
              λ i low b. well_placed p i (r.lower i low b),
            ),
        λ c.
            answers _ _ _ (sound_passes p c.0)
            (from_fault p p.b 1 id n (
            record {
              low = c.1.some;
              high = omega (arith, c.1.most);
              places = c.2;
              wrong = λ q. c.3 (well_placed p id q);
              lower = λ i low b. right p i (c.4 i low b);
            })),
      );
    }

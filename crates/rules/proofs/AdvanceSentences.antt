-- The sentences on what an advance refuses at its labels. Assumes nothing.
use mathlib.Core.Path.{◌≡◌, refl, ap, ap₂, ◌∙◌}
use mathlib.Core.Bool.{Bool, true, false, not, ◌&&◌, ◌||◌, true≢false}
use mathlib.Core.List.{List}
use Prim.Native.Nat.{ℕ, zero, suc, ◌-◌, ◌≤◌, ◌<◌}
use native.Mathlib.Omega.{arith}
use lib.Dec.{eqb, ltb}
use lib.ListN.{length}
use borrow.Author.Tests.{le-ltb, lt-ltb, ltb-true, eq-eqb, ne_eqb, eqb-true, eqb-false, not-true}
use Rattle.basics.specs.Pick.{when, unless}
use Rattle.basics.specs.Below.{all_below}
use Rattle.basics.proofs.Picks.{when_both, unless_both}
use Rattle.basics.proofs.Truth.{and_left, and_right, is_false}
use Rattle.basics.proofs.All.{all_at, all_of}
use Rattle.idset.specs.Members.{member_of, size_of}
use Rattle.idset.proofs.Members.{member_id, id_low, id_high}
use Rattle.worker.specs.declared.Slot.{Slot}
use Rattle.pool.specs.declared.Pool.{Pool}
use Rattle.pool.specs.declared.WorkerNo.{WorkerNo}
use Rattle.pool.specs.Answers.{fine, refuse, first, refused}
use Rattle.pool.specs.Record.{state_of, worker_at, set_at}
use Rattle.pool.specs.Steps.{slot_here, unchanged, unposted, collects, ends, line_of, version_check, hand_check, line_check, stand_check, advance_check, advance_of}
use Rattle.pool.proofs.Standing.{standing}
use Rattle.rules.specs.Calls.{advancing, call}
use Rattle.rules.specs.Sentences.{answer, At, NotLeaving, AllLeaving, size, MayStore, at_18, at_28, AdvanceSentences}
use Rattle.rules.proofs.Refused.{lines_answered}
use Rattle.rules.proofs.Outcomes.{fine_apart, same_number, fine_says, refuse_says, said_refused, first_second}
use Rattle.rules.proofs.Passed.{stand_up, stand_passes, has_worker}

-- ---- the check of a slot's version

version_refused : (stores : Bool) (k : ℕ) (p : Pool) (n : ℕ) {P : Type 0} → version_check stores k p ≡ refuse n 0
    → (12 ≡ n → stores ≡ true → (slot_here p k).version ≡ 4294967295 → P) → P
version_refused stores k p n {P} h f =
    when_both (λ c. c ≡ refuse n 0 → P) (stores && eqb (slot_here p k).version 4294967295) _ _
    (λ t q. f (same_number q) (and_left stores _ t) (eqb-true _ _ (and_right stores _ t))) (λ t q. absurd (fine_apart q)) h

version_refuses : (stores : Bool) (k : ℕ) (p : Pool) → stores ≡ true → (slot_here p k).version ≡ 4294967295 → version_check stores k p ≡ refuse 12 0
unfolding when
version_refuses stores k p s e = rw (s, e)

-- ---- the check at 32

-- where not all pass, one that fails
all_fails : (n : ℕ) (f : ℕ → Bool) → all_below n f ≡ false → (i : ℕ) × (i < n) × (f i ≡ false)
unfolding all_below
all_fails zero f h = absurd (true≢false h)
all_fails (suc n) f h = go (all_fails n f) (all_below n f) refl
  where
    go : (all_below n f ≡ false → (i : ℕ) × (i < n) × (f i ≡ false)) → (t : Bool) → all_below n f ≡ t → (i : ℕ) × (i < suc n) × (f i ≡ false)
    go earlier true e = (n, omega arith, rw e at h)
    go earlier false e = let r = earlier e in (r.0, omega (arith, r.1), r.2)

-- what the paper asks of the member j + 1
not_or_false : (m l : Bool) → (not m || l) ≡ false → (m ≡ true) × (l ≡ false)
not_or_false true l h = (refl, h)
not_or_false false l h = absurd (true≢false h)

not_or_true : (m l : Bool) → (m ≡ true → l ≡ true) → (not m || l) ≡ true
not_or_true true l h = h refl
not_or_true false l h = refl

module _ (k : ℕ) (p : Pool) where
  abbrev leaves : ℕ → Bool
  leaves j = not (member_of (set_at p k) (suc j)) || eqb (state_of p (suc j)) 2

  all_leaving_lem : AllLeaving p k → all_below 256 leaves ≡ true
  all_leaving_lem f = all_of 256 leaves (λ j l. not_or_true _ _ (λ m. eq-eqb _ 2 (f (suc j) m)))

  leaving_all : all_below 256 leaves ≡ true → AllLeaving p k
  leaving_all h id m =
      let i = member_id (set_at p k) id m in
      let low = id_low id i in
      let high = id_high id i in
      let e : suc (id - 1) ≡ id = omega arith in
      let t : leaves (id - 1) ≡ true = all_at 256 leaves h (id - 1) (omega arith) in
      eqb-true _ 2 (rw (e, m) at t)

  not_all : NotLeaving p k → all_below 256 leaves ≡ false
  not_all a = is_false (all_below 256 leaves) (λ h. a.other (leaving_all h a.id a.member))

  one_not : all_below 256 leaves ≡ false → NotLeaving p k
  one_not h =
      let r = all_fails 256 leaves h in
      let b = not_or_false (member_of (set_at p k) (suc r.0)) _ r.2 in
      record { id = suc r.0; member = b.0; other = eqb-false _ 2 b.1 }

  -- which of the two it refused
  hand_refused : (room n : ℕ) {P : Type 0} → hand_check k p room ≡ refuse n 0 → (14 ≡ n → NotLeaving p k → P) → (13 ≡ n → AllLeaving p k → room < size p k → P)
      → P
  unfolding hand_check size_of
  hand_refused room n {P} h f g =
      unless_both (λ c. c ≡ refuse n 0 → P) (all_below 256 leaves) _ _ (λ t q. f (same_number q) (one_not t))
      (λ t. when_both (λ c. c ≡ refuse n 0 → P) (ltb room (size p k)) _ _
      (λ u q. g (same_number q) (leaving_all t) (ltb-true _ _ u)) (λ u q. absurd (fine_apart q))) h

  refuses_14 : (room : ℕ) → NotLeaving p k → hand_check k p room ≡ refuse 14 0
  unfolding hand_check unless
  refuses_14 room a = rw (not_all a)

  refuses_13 : (room : ℕ) → AllLeaving p k → room < size p k → hand_check k p room ≡ refuse 13 0
  unfolding hand_check unless when size_of
  refuses_13 room f l = rw (all_leaving_lem f, lt-ltb room (size p k) l)

  hand_passes : (room : ℕ) → AllLeaving p k → size p k ≤ room → hand_check k p room ≡ fine
  unfolding hand_check unless when size_of
  hand_passes room f l = rw (all_leaving_lem f, le-ltb room (size p k) l)

-- ---- the label's own check

-- the label at which it refused
by_label : (l k : ℕ) (p : Pool) (room n : ℕ) {P : Type 0} → line_check l k p room ≡ refuse n 0
    → (l ≡ 18 → version_check (unchanged k p) k p ≡ refuse n 0 → P)
    → (l ≡ 28 → version_check (collects k p) k p ≡ refuse n 0 → P) → (l ≡ 32 → hand_check k p room ≡ refuse n 0 → P) → P
unfolding line_check
by_label l k p room n {P} h f g i =
    when_both (λ c. c ≡ refuse n 0 → P) (eqb l 18) _ _ (λ t. f (eqb-true l 18 t))
    (λ t. when_both (λ c. c ≡ refuse n 0 → P) (eqb l 28) _ _ (λ u. g (eqb-true l 28 u))
    (λ u. when_both (λ c. c ≡ refuse n 0 → P) (eqb l 32) _ _ (λ v. i (eqb-true l 32 v)) (λ v q. absurd (fine_apart q)))) h

-- slot i equals h in both parts
same_slot_lem : (k : ℕ) (p : Pool) → unchanged k p ≡ true → slot_here p k ≡ (worker_at p k).h
same_slot_lem k p t =
    ap₂ (λ (id version : ℕ). record { id = id; version = version })
    (eqb-true _ _ (and_left (eqb (slot_here p k).id (worker_at p k).h.id) _ t))
    (eqb-true _ _ (and_right (eqb (slot_here p k).id (worker_at p k).h.id) _ t))

slot_same : (k : ℕ) (p : Pool) → slot_here p k ≡ (worker_at p k).h → unchanged k p ≡ true
slot_same k p e = ap₂ ◌&&◌ (eq-eqb _ _ (ap (λ (s : Slot). s.id) e)) (eq-eqb _ _ (ap (λ (s : Slot). s.version) e))

-- ---- the call

module _ (p : Pool) (w : ℕ) (out : List ℕ) where
  abbrev no : WorkerNo
  no = record { 0 = w }

  abbrev k : ℕ
  k = w - 1

  abbrev l : ℕ
  l = (worker_at p k).label

  -- where the refusal is the label's own
  refused_at : (n : ℕ) → 7 < n → n < 21 → answer (advancing w out) p ≡ refused n 0 → (stand_check p no ≡ fine) × (line_check l k p (length out) ≡ refuse n 0)
  unfolding call advance_of advance_check
  refused_at n high low h =
      first_second (stand_check p no) _ n 0 (λ q. omega (arith, stand_up p no n 0 q high))
      (said_refused (advance_check p no (length out)) p _ n 0 (lines_answered l k p n 0) h)

  stands_at : (n : ℕ) → stand_check p no ≡ fine → l ≡ n → At p w n
  stands_at n h e = record { worker = has_worker (standing p no h).worker; label = e }

  refuses_at : (m n : ℕ) → At p w m → (m ≡ 0 → ⊥) → line_check m k p (length out) ≡ refuse n 0 → answer (advancing w out) p ≡ refused n 0
  unfolding call advance_of advance_check first
  refuses_at m n a busy e = refuse_says (advance_check p no (length out)) p _ (rw (stand_passes p w m a busy, a.label) e)

  -- 12: the store that was to be
  store_refused : answer (advancing w out) p ≡ refused 12 0 → MayStore p w × ((slot_here p k).version ≡ 4294967295)
  store_refused h =
      let c = refused_at 12 (omega arith) (omega arith) h in
      by_label l k p (length out) 12 c.1
      (λ e q. version_refused (unchanged k p) k p 12 q (λ _ same largest. (at_18 (stands_at 18 c.0 e) (same_slot_lem k p same), largest)))
      (λ e q.
      version_refused (collects k p) k p 12 q (λ _ t largest.
      let u = and_left (unposted k p) _ t in
      let some = eqb-false _ _ (not-true _ (and_left (not (eqb (worker_at p k).h.id 0)) _ u)) in
      let other = eqb-false _ _ (not-true _ (and_right (not (eqb (worker_at p k).h.id 0)) _ u)) in
      (at_28 (stands_at 28 c.0 e) some other (same_slot_lem k p (and_right (unposted k p) _ t)), largest)))
      (λ e q. hand_refused k p (length out) 12 q (λ z _. absurd (omega arith)) (λ z _ _. absurd (omega arith)))

  refuses_store : MayStore p w → (slot_here p k).version ≡ 4294967295 → answer (advancing w out) p ≡ refused 12 0
  unfolding line_check when
  refuses_store (at_18 a same) e = refuses_at 18 12 a (λ z. omega arith) (version_refuses (unchanged k p) k p (slot_same k p same) e)
  refuses_store (at_28 a some other same) e =
      refuses_at 28 12 a (λ z. omega arith)
      (version_refuses (collects k p) k p (rw (ne_eqb _ _ some, ne_eqb _ _ other) (slot_same k p same)) e)

  -- 13 and 14 are given at 32 alone
  refused_at_32 : (n : ℕ) → 12 < n → n < 21 → answer (advancing w out) p ≡ refused n 0 → At p w 32 × (hand_check k p (length out) ≡ refuse n 0)
  refused_at_32 n high low h =
      let c = refused_at n (omega arith) low h in
      by_label l k p (length out) n c.1
      (λ e q. version_refused (unchanged k p) k p n q (λ z _ _. absurd (omega arith)))
      (λ e q. version_refused (collects k p) k p n q (λ z _ _. absurd (omega arith)))
      (λ e q. (stands_at 32 c.0 e, q))

  refuses_at_32 : (n : ℕ) → At p w 32 → hand_check k p (length out) ≡ refuse n 0 → answer (advancing w out) p ≡ refused n 0
  unfolding line_check when
  refuses_at_32 n a e = refuses_at 32 n a (λ z. omega arith) e

  hand_allowed : At p w 32 → AllLeaving p k → size p k ≤ length out → advance_check p no (length out) ≡ fine
  unfolding advance_check first line_check when
  hand_allowed a f h = rw (stand_passes p w 32 a (λ z. omega arith), a.label) (hand_passes k p (length out) f h)

pub advance_sentences : AdvanceSentences
unfolding call advance_of line_of ends when size_of
advance_sentences =
    record {
      versions_used_up = λ p w out. (store_refused p w out, λ c. refuses_store p w out c.0 c.1);
      not_leaving = λ p w out. (
        λ h.
            let c = refused_at_32 p w out 14 (omega arith) (omega arith) h in
            (c.0, hand_refused (w - 1) p (length out) 14 c.1 (λ _ a. a) (λ z _ _. absurd (omega arith))),
        λ c. refuses_at_32 p w out 14 c.0 (refuses_14 (w - 1) p (length out) c.1),
      );
      list_too_short = λ p w out. (
        λ h.
            let c = refused_at_32 p w out 13 (omega arith) (omega arith) h in
            hand_refused (w - 1) p (length out) 13 c.1 (λ z _. absurd (omega arith)) (λ _ f l. (c.0, f, l)),
        λ c. refuses_at_32 p w out 13 c.0 (refuses_13 (w - 1) p (length out) c.1 c.2),
      );
      hands_back = λ p w out a f h. fine_says (advance_check p _ (length out)) p _ (hand_allowed p w out a f h) ∙ rw a.label;
    }

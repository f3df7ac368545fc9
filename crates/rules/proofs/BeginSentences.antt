-- The sentences on the begins. Assumes nothing.
use mathlib.Core.Path.{◌≡◌, refl, sym, ap, ◌∙◌}
use mathlib.Core.Logic.{◌↔◌}
use mathlib.Core.Bool.{Bool, true, false, true≢false}
use mathlib.Core.List.{List}
use Prim.Native.Nat.{ℕ, ◌-◌, ◌≤◌, ◌<◌}
use native.Mathlib.Omega.{arith}
use lib.Dec.{eqb}
use lib.ListN.{length, get_or}
use lib.Seq.{get_or-set_same, get_or-set_other}
use borrow.Author.Tests.{le-ltb, eq-eqb, ne_eqb, eqb-true, eqb-false}
use Rattle.basics.specs.Pick.{when, unless}
use Rattle.basics.proofs.Any.{any_true, any_false}
use Rattle.pool.specs.declared.Pool.{Pool}
use Rattle.pool.specs.Answers.{Check, fine, refuse, first, answering, after_check, yes as said_yes, no as said_no}
use Rattle.pool.specs.Record.{posted_at, state_of}
use Rattle.pool.specs.Sound.{sound_check, sound_of}
use Rattle.pool.specs.Checks.{begin_check, guard_check, id_check, fire_check, post_check, entry_check, list_check, give_up_check, take_check, ask_check}
use Rattle.pool.specs.Begins.{hire_of, fire_of, post_of, give_up_of, take_of, ask_of}
use Rattle.pool.proofs.Firsts.{all_fine}
use Rattle.pool.proofs.Checked.{sound_of_lem, sound_passes, begun, employed, buffer, fires, posts, takes, asks, gives_up}
use Rattle.rules.specs.Calls.{asking, call}
use Rattle.rules.specs.Sentences.{answer, Idle, Employs, IsBuffer, MayLeave, BeginSentences}
use Rattle.rules.proofs.Outcomes.{apart, accepted_apart, fine_apart, after_both, fine_says, refuse_says, said_accepted, said_refused, first_second}
use Rattle.rules.proofs.ListChecked.{listed}
use Rattle.rules.proofs.Passed.{sound_up, begin_up, guard_up, id_up, idle_passes, guard_passes, id_passes, idle_worker, employs, is_buffer}

-- of a test that a refusal follows
unless_failed : (t : Bool) (m at n place : ℕ) → unless t (refuse m at) fine ≡ refuse n place → t ≡ false
unfolding unless
unless_failed true m at n place h = absurd (fine_apart h)
unless_failed false m at n place h = refl

-- ---- what the calls' own checks find

module _ (p : Pool) (w g : ℕ) where
  fire_finds : Idle p w → Employs p w g → (t : Check) → unless (eqb (posted_at p g) 0) (refuse 8 0) fine ≡ t
      → fire_check p (record { 0 = w }) (record { 0 = g }) ≡ t
  unfolding fire_check first
  fire_finds a o t e = rw (idle_passes p w a, guard_passes p w g o) e

  fire_found : fire_check p (record { 0 = w }) (record { 0 = g }) ≡ refuse 8 0 → Idle p w × Employs p w g × (eqb (posted_at p g) 0 ≡ false)
  unfolding fire_check
  fire_found e =
      let a = first_second (begin_check p _) _ 8 0 (λ q. omega (arith, begin_up p _ 8 0 q (omega arith))) e in
      let b = first_second (guard_check p _ _) _ 8 0 (λ q. omega (arith, guard_up p _ _ 8 0 q)) a.1 in
      (idle_worker (begun p _ a.0), employs (employed p _ _ b.0), unless_failed _ 8 0 8 0 b.1)

  post_passes : (b : ℕ) → Idle p w → Employs p w g → b ≤ p.b → post_check p (record { 0 = w }) (record { 0 = g }) (record { 0 = b }) ≡ fine
  unfolding post_check first when
  post_passes b a o most = rw (idle_passes p w a, guard_passes p w g o, le-ltb p.b b most)

module _ (p : Pool) (ids : List ℕ) where
  entry_passes : (k : ℕ) → MayLeave p ids k → entry_check p ids k ≡ fine
  unfolding entry_check first when unless
  entry_passes k a =
      let id = get_or ids k 0 in
      rw (id_passes p id k a.buffer, any_false k (λ j. eqb (get_or ids j 0) id) (λ j l. ne_eqb (get_or ids j 0) id (a.unrepeated j l)), a.in_service)

  list_passes : (n : ℕ) → ((k : ℕ) → k < n → MayLeave p ids k) → list_check p ids n ≡ fine
  list_passes n f = all_fine (entry_check p ids) n (λ k l. entry_passes k (f k l))

  give_up_passes : (w : ℕ) → Idle p w → ((k : ℕ) → k < length ids → MayLeave p ids k) → give_up_check p (record { 0 = w }) ids ≡ fine
  unfolding give_up_check first
  give_up_passes w a f = rw (idle_passes p w a, list_passes (length ids) f)

  may_leave : (n : ℕ) → list_check p ids n ≡ fine → (k : ℕ) → k < n → MayLeave p ids k
  may_leave n h k l =
      let a = listed p ids n h k l in
      let id = get_or ids k 0 in
      record {
        buffer = is_buffer a.names;
        in_service = a.in_service;
        unrepeated = λ j m e. true≢false (sym (any_true k (λ j. eqb (get_or ids j 0) id) j m (eq-eqb (get_or ids j 0) id e)) ∙ a.first_named);
      }

module _ (p : Pool) (b : ℕ) where
  take_finds : sound_of p ≡ true → IsBuffer p b → (t : Check) → unless (eqb (state_of p b) 0) (refuse 11 0) fine ≡ t → take_check p (record { 0 = b }) ≡ t
  unfolding take_check first unless
  take_finds sound a t e = rw (sound_passes p sound, id_passes p b 0 a) e

  take_found : take_check p (record { 0 = b }) ≡ refuse 11 0 → (sound_of p ≡ true) × IsBuffer p b × (eqb (state_of p b) 0 ≡ false)
  unfolding take_check
  take_found e =
      let a = first_second (sound_check p) _ 11 0 (λ q. omega (arith, sound_up p 11 0 q (omega arith))) e in
      let c = first_second (id_check p b 0) _ 11 0 (λ q. omega (arith, id_up p b 0 11 0 q)) a.1 in
      (sound_of_lem p a.0, is_buffer (buffer p b 0 c.0), unless_failed _ 11 0 11 0 c.1)

  ask_passes : (w : ℕ) → Idle p w → IsBuffer p b → ask_check p (record { 0 = w }) (record { 0 = b }) ≡ fine
  unfolding ask_check first
  ask_passes w a i = rw (idle_passes p w a, id_passes p b 0 i)

-- ---- an ask answers yes or no, by the test t

ask_told : (c : Check) (p : Pool) (t u : Bool) → (after_check c p (answering (when t said_yes said_no) p)).answer ≡ when u said_yes said_no
    → (c ≡ fine) × (t ≡ u)
unfolding after_check when
ask_told fine p true true h = (refl, refl)
ask_told fine p true false h = absurd (apart (cc))
ask_told fine p false true h = absurd (apart (cc))
ask_told fine p false false h = (refl, refl)
ask_told (refuse n place) p t true h = absurd (apart (cc))
ask_told (refuse n place) p t false h = absurd (apart (cc))

ask_said : (p : Pool) (w b : ℕ) (u : Bool) → (answer (asking w b) p ≡ when u said_yes said_no) ↔ (Idle p w × IsBuffer p b × (eqb (state_of p b) 1 ≡ u))
unfolding call ask_of
ask_said p w b u = (
  λ h. let t = ask_told (ask_check p _ _) p _ u h in let a = asks p _ _ t.0 in (idle_worker a.begun, is_buffer a.buffer, t.1),
  λ c. fine_says _ p _ (ask_passes p b w c.0 c.1) ∙ ap (λ (t : Bool). when t said_yes said_no) c.2,
)

pub begin_sentences : BeginSentences
unfolding call hire_of fire_of post_of give_up_of take_of ask_of after_check when unless
begin_sentences =
    record {
      hire = λ p w. (λ h. idle_worker (begun p _ (said_accepted _ p _ h)), λ a. fine_says _ p _ (idle_passes p w a));
      fire = λ p w g. (
        λ h. let a = fires p _ _ (said_accepted _ p _ h) in (idle_worker a.begun, employs a.guard, a.unposted),
        λ c. fine_says _ p _ (fire_finds p w g c.0 c.1 fine (rw (eq-eqb (posted_at p g) 0 c.2))),
      );
      fire_posted = λ p w g. (
        λ h. let a = fire_found p w g (said_refused _ p _ 8 0 accepted_apart h) in (a.0, a.1, eqb-false _ _ a.2),
        λ c. refuse_says _ p _ (fire_finds p w g c.0 c.1 (refuse 8 0) (rw (ne_eqb (posted_at p g) 0 c.2))),
      );
      post = λ p w g b. (
        λ h. let a = posts p _ _ _ (said_accepted _ p _ h) in (idle_worker a.begun, employs a.guard, a.most),
        λ c. fine_says _ p _ (post_passes p w g b c.0 c.1 c.2),
      );
      give_up = λ p w ids. (
        λ h. let a = gives_up p _ ids (said_accepted _ p _ h) in (idle_worker a.begun, may_leave p ids (length ids) a.list),
        λ c. fine_says _ p _ (give_up_passes p ids w c.0 c.1),
      );
      take = λ p b. (
        λ h. let a = takes p _ (said_accepted _ p _ h) in (a.sound, is_buffer a.buffer, a.free),
        λ c. fine_says _ p _ (take_finds p b c.0 c.1 fine (rw c.2)),
      );
      take_serves = λ p b s h.
          let e = said_accepted (take_check p _) p _ h in
          let a = takes p _ e in
          let long = s.states in
          rw e (get_or-set_same p.states (b - 1) 1 0 (omega arith));
      take_others = λ p b id some other.
          after_both (λ t. state_of t.pool id ≡ state_of p id) (take_check p _) p _
          (λ e. let a = takes p _ e in get_or-set_other p.states (b - 1) (id - 1) 1 0 (λ q. other (omega arith)))
          (λ n place e. refl);
      take_not_free = λ p b. (
        λ h. let a = take_found p b (said_refused _ p _ 11 0 accepted_apart h) in (a.0, a.1, eqb-false _ _ a.2),
        λ c. refuse_says _ p _ (take_finds p b c.0 c.1 (refuse 11 0) (rw (ne_eqb (state_of p b) 0 c.2))),
      );
      ask_yes = λ p w b. (
        λ h. let c = (ask_said p w b true).0 h in (c.0, c.1, eqb-true _ _ c.2),
        λ c. (ask_said p w b true).1 (c.0, c.1, eq-eqb _ _ c.2),
      );
      ask_no = λ p w b. (
        λ h. let c = (ask_said p w b false).0 h in (c.0, c.1, eqb-false _ _ c.2),
        λ c. (ask_said p w b false).1 (c.0, c.1, ne_eqb _ _ c.2),
      );
      ask_leaves = λ p w b. after_both (λ t. t.pool ≡ p) (ask_check p _ _) p _ (λ e. refl) (λ n place e. refl);
    }

-- A give-up list entry by entry: what the walks over it find and make. Assumes nothing.
use mathlib.Core.Path.{◌≡◌, refl, ap, ap₂, ◌∙◌}
use mathlib.Core.Bool.{Bool, true, false, ◌&&◌, ◌||◌, and-false}
use mathlib.Core.List.{List}
use Prim.Native.Nat.{ℕ, suc, ◌+◌, ◌-◌, ◌≤◌, ◌<◌}
use native.Mathlib.Decide.{ℕ_discrete}
use native.Mathlib.Omega.{arith}
use native.Mathlib.Numerals.{add-one}
use lib.Dec.{eqb}
use lib.ListN.{length, get_or, set, length-set}
use lib.Seq.{get_or-set_same, get_or-set_other}
use borrow.Author.Tests.{eq-eqb, ne_eqb, eqb-true}
use Rattle.basics.specs.Pick.{when, unless}
use Rattle.basics.specs.Below.{any_below, table}
use Rattle.basics.specs.Among.{among_first, among}
use Rattle.basics.proofs.Truth.{and_left, and_right, is_false}
use Rattle.basics.proofs.Table.{table_at, table_is, table_length, table_cong}
use Rattle.idset.specs.declared.IdSet.{IdSet}
use Rattle.idset.specs.Members.{is_id, member_of, set_of}
use Rattle.idset.proofs.Members.{id_true}
use Rattle.idset.proofs.Marking.{met_before}
use Rattle.pool.specs.declared.Pool.{Pool}
use Rattle.worker.specs.Registers.{to, with_i}
use Rattle.pool.specs.Answers.{fine, refuse, first, answering, accepted}
use Rattle.pool.specs.Record.{state_of, worker_at, with_states, with_worker, with_set}
use Rattle.pool.specs.Checks.{id_check, entry_check}
use Rattle.pool.specs.Begins.{giving}
use Rattle.pool.proofs.Checked.{buffer}

-- ---- the walk that judges

-- entry k names no buffer
pub entry_stops : (p : Pool) (ids : List ℕ) (k : ℕ) {n place : ℕ} → id_check p (get_or ids k 0) k ≡ refuse n place → entry_check p ids k ≡ refuse n place
unfolding entry_check first
entry_stops p ids k e = rw e refl

-- it names one: then the marks say whether an earlier one equals it, and its state whether it is in service
module _ (p : Pool) (ids : List ℕ) (k : ℕ) {s : IdSet} {again : Bool} (few : p.b ≤ 256) (e : s ≡ set_of (among_first ids k))
    (h : again ≡ member_of s (get_or ids k 0)) (named : id_check p (get_or ids k 0) k ≡ fine) where
  id : ℕ
  id = get_or ids k 0

  judged : entry_check p ids k ≡ when again (refuse 10 k) (unless (eqb (state_of p (get_or ids k 0)) 1) (refuse 11 k) fine)
  unfolding entry_check first id
  judged =
      let b = buffer p id k named in
      rw (named, h ∙ met_before ids k e id (id_true id b.some (omega (arith, b.most)))) refl

  pub entry_repeats : again ≡ true → entry_check p ids k ≡ refuse 10 k
  unfolding when
  entry_repeats q = rw q at judged

  module _ (q : again ≡ false) {at : ℕ} (there : at ≡ get_or ids k 0 - 1) where
    pub entry_unserved : (get_or p.states at 0 ≡ 1 → ⊥) → entry_check p ids k ≡ refuse 11 k
    unfolding when unless
    entry_unserved n = rw (q, ne_eqb (state_of p (get_or ids k 0)) 1 (rw there at n)) at judged

    pub entry_passes : get_or p.states at 0 ≡ 1 → entry_check p ids k ≡ fine
    unfolding when unless
    entry_passes n = rw (q, eq-eqb (state_of p (get_or ids k 0)) 1 (rw there at n)) at judged

-- ---- one buffer leaves

abbrev pub left_one : List ℕ → ℕ → List ℕ
left_one st id = table (length st) (λ k. when (is_id (suc k) && eqb id (suc k)) 2 (get_or st k 0))

pub left_none : (st : List ℕ) (id : ℕ) → (is_id id ≡ true → ⊥) → st ≡ left_one st id
unfolding when
left_none st id f = table_is (length st) _ st 0 refl (λ k l.
    rw (is_false (is_id (suc k) && eqb id (suc k)) (λ t.
    f (ap is_id (eqb-true id (suc k) (and_right (is_id (suc k)) (eqb id (suc k)) t)) ∙ and_left (is_id (suc k)) (eqb id (suc k)) t))))

pub left_some : (st : List ℕ) (id : ℕ) → 1 ≤ id → id ≤ 256 → set st (id - 1) 2 ≡ left_one st id
unfolding when
left_some st id lo hi = table_is (length st) _ (set st (id - 1) 2) 0 (length-set st (id - 1) 2) (λ k l. go k l (ℕ_discrete id (suc k)))
  where
    go : (k : ℕ) → k < length st → Dec (id ≡ suc k) → get_or (set st (id - 1) 2) k 0 ≡ when (is_id (suc k) && eqb id (suc k)) 2 (get_or st k 0)
    go k l (yes q) =
        let at : k ≡ id - 1 = omega arith in
        ap (λ (n : ℕ). get_or (set st (id - 1) 2) n 0) at ∙ get_or-set_same st (id - 1) 2 0 (omega arith)
        ∙ rw (id_true (suc k) (omega arith) (omega arith), eq-eqb id (suc k) q)
    go k l (no n) = get_or-set_other st (id - 1) k 2 0 (λ q. n (omega arith)) ∙ rw (ne_eqb id (suc k) n, and-false)

-- ---- the first j leave

abbrev pub left_first : List ℕ → List ℕ → ℕ → List ℕ
left_first st ids j = table (length st) (λ k. when (is_id (suc k) && among_first ids j (suc k)) 2 (get_or st k 0))

pub left_first_none : (st ids : List ℕ) → st ≡ left_first st ids 0
unfolding when any_below
left_first_none st ids = table_is (length st) _ st 0 refl (λ k l. rw and-false)

nested : (i s t : Bool) (x y : ℕ) → when (i && t) x (when (i && s) x y) ≡ when (i && (s || t)) x y
unfolding when
nested true true true x y = refl
nested true true false x y = refl
nested true false t x y = refl
nested false s t x y = refl

pub left_first_again : (st ids : List ℕ) (j : ℕ) {after next : List ℕ} → after ≡ left_first st ids j → next ≡ left_one after (get_or ids j 0)
    → next ≡ left_first st ids (j + 1)
unfolding any_below
left_first_again st ids j {after} {next} e h =
    let now : ℕ → ℕ = λ k. when (is_id (suc k) && among_first ids j (suc k)) 2 (get_or st k 0) in
    let long : length after ≡ length st = ap length e ∙ table_length (length st) now in
    h ∙ ap (λ (n : ℕ). table n (λ k. when (is_id (suc k) && eqb (get_or ids j 0) (suc k)) 2 (get_or after k 0))) long
    ∙ table_cong (length st) (λ k. when (is_id (suc k) && eqb (get_or ids j 0) (suc k)) 2 (get_or after k 0)) (λ k. when (is_id (suc k) && among_first ids (j + 1) (suc k)) 2 (get_or st k 0)) (λ k l.
    rw (e, add-one, table_at (length st) now k 0 l)
    (nested (is_id (suc k)) (among_first ids j (suc k)) (eqb (get_or ids j 0) (suc k)) 2 (get_or st k 0)))

-- ---- the record of an accepted give-up, by what the loops made

pub given_up : (p : Pool) (k : ℕ) (ids st : List ℕ) (s : IdSet) → length p.states ≡ 256 → st ≡ left_first p.states ids (length ids) → s ≡ set_of (among ids)
    → answering accepted (with_worker k (to 12 (with_i 0 (worker_at p k))) (with_set k s (with_states st p))) ≡ answering accepted (giving k ids p)
given_up p k ids st s long e h =
    rw (
      e,
      h,
      long,
      table_cong 256 (λ j. when (is_id (suc j) && among ids (suc j)) 2 (get_or p.states j 0)) (λ j. when (among ids (suc j)) 2 (state_of p (suc j))) (λ j l.
          ap₂ (λ (t : Bool) (n : ℕ). when (t && among ids (suc j)) 2 (get_or p.states n 0)) (id_true (suc j) (omega arith) l) (omega arith)),
    )

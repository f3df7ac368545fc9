-- Each leaving buffer is in exactly one slot or set, and any other in none; and what a worker's label tells of its set. Assumes nothing.
use mathlib.Core.Path.{◌≡◌, refl, sym, ap, ◌∙◌, subst}
use mathlib.Core.Bool.{Bool, true, false, ◌||◌}
use mathlib.Core.List.{List, []}
use Prim.Native.Nat.{ℕ, zero, suc, ◌+◌, ◌-◌, ◌≤◌, ◌<◌}
use native.Mathlib.Decide.{ℕ_discrete}
use native.Mathlib.Omega.{arith}
use lib.Dec.{eqb}
use lib.ListN.{length, get_or, set}
use lib.Seq.{get_or-set_same, get_or-set_other, set-get_or}
use borrow.Author.Tests.{eq-eqb}
use Rattle.basics.specs.Below.{one, count_below}
use Rattle.basics.proofs.Count.{one_le, count_cong, count_some}
use Rattle.basics.proofs.Truth.{by_order, is_false}
use Rattle.idset.specs.declared.IdSet.{IdSet}
use Rattle.idset.specs.Members.{member_of}
use Rattle.worker.specs.declared.Worker.{Worker}
use Rattle.worker.specs.Registers.{no_worker}
use Rattle.pool.specs.declared.Pool.{Pool}
use Rattle.pool.specs.Record.{slot_at, set_at}
use Rattle.rules.specs.Shaped.{Shaped}

-- ---- a count where the test answers otherwise at one number

count_changed : (n : ℕ) (f g : ℕ → Bool) (i : ℕ) → i < n → ((j : ℕ) → (j ≡ i → ⊥) → g j ≡ f j) → count_below n g + one (f i) ≡ count_below n f + one (g i)
unfolding count_below
count_changed zero f g i l same = absurd (omega arith)
count_changed (suc n) f g i l same =
    by_order n i
    (λ b.
    let q : n ≡ i = omega arith in
    let rest : count_below n g ≡ count_below n f = count_cong n g f (λ j m. same j (λ z. omega arith)) in
    let new : one (g n) ≡ one (g i) = ap (λ (j : ℕ). one (g j)) q in
    let old : one (f n) ≡ one (f i) = ap (λ (j : ℕ). one (f j)) q in
    omega arith)
    (λ b.
    let here : one (g n) ≡ one (f n) = ap one (same n (λ z. omega arith)) in
    omega (arith, count_changed n f g i b same))

-- the same of a list of which one entry is replaced
count_set : {A : Type 0} (n : ℕ) (f : A → Bool) (l : List A) (i : ℕ) (a d : A) → i < n → length l ≡ n
    → count_below n (λ j. f (get_or (set l i a) j d)) + one (f (get_or l i d)) ≡ count_below n (λ j. f (get_or l j d)) + one (f a)
count_set n f l i a d b e =
    let here : one (f (get_or (set l i a) i d)) ≡ one (f a) = ap (λ x. one (f x)) (get_or-set_same l i a d (omega arith)) in
    omega (arith, count_changed n (λ j. f (get_or l j d)) (λ j. f (get_or (set l i a) j d)) i b (λ j o. ap f (get_or-set_other l i j a d o)))

-- ---- the statement

-- the labels of a give-up; those at which v is to be put into a slot
abbrev pub gives : ℕ → Bool
gives l = eqb l 12 || eqb l 13 || eqb l 15 || eqb l 18 || eqb l 22 || eqb l 25 || eqb l 28 || eqb l 31 || eqb l 32

abbrev pub tries : ℕ → Bool
tries l = eqb l 18 || eqb l 22 || eqb l 25

-- a worker and its set
pub record Carries (x : Worker) (s : IdSet) : Type 0 where
  pub outside : gives x.label ≡ false → (id : ℕ) → member_of s id ≡ false
  pub trying : tries x.label ≡ true → member_of s x.v ≡ true

abbrev none : IdSet
none = record { words = [] }

abbrev in_slots : List ℕ → ℕ → ℕ
in_slots slots id = count_below 32 (λ i. eqb (get_or slots i 0) id)

abbrev in_sets : List IdSet → ℕ → ℕ
in_sets sets id = count_below 8 (λ k. member_of (get_or sets k none) id)

abbrev pub wanted : List ℕ → ℕ → ℕ
wanted states id = one (eqb (get_or states (id - 1) 0) 2)

-- of a record's arrays
pub record Arrays (b : ℕ) (slots states : List ℕ) (workers : List Worker) (sets : List IdSet) : Type 0 where
  pub holds : (k : ℕ) → k < 8 → Carries (get_or workers k no_worker) (get_or sets k none)
  pub places : (id : ℕ) → 1 ≤ id → id ≤ b → in_slots slots id + in_sets sets id ≡ wanted states id

abbrev pub Placed : Pool → Type 0
Placed p = Arrays p.b p.slot_id p.states p.workers p.sets

-- ---- what it tells

module _ {b : ℕ} {slots states : List ℕ} {workers : List Worker} {sets : List IdSet} (a : Arrays b slots states workers sets) where
  -- other states that want the same
  pub restated : (new : List ℕ) → ((id : ℕ) → 1 ≤ id → id ≤ b → wanted new id ≡ wanted states id) → Arrays b slots new workers sets
  restated new same = record { holds = a.holds; places = λ id lo hi. a.places id lo hi ∙ sym (same id lo hi) }

  module _ (k : ℕ) (below : k < 8) where
    member_counted : (id : ℕ) → member_of (get_or sets k none) id ≡ true → 1 ≤ in_sets sets id
    member_counted id m = count_some 8 (λ k. member_of (get_or sets k none) id) k below m

    -- a member is leaving
    pub member_wanted : (id : ℕ) → 1 ≤ id → id ≤ b → member_of (get_or sets k none) id ≡ true → wanted states id ≡ 1
    member_wanted id lo hi m = omega (arith, member_counted id m, a.places id lo hi, one_le (eqb (get_or states (id - 1) 0) 2))

    -- what a slot holds is no member
    pub slot_alone : (id i : ℕ) → 1 ≤ id → id ≤ b → i < 32 → get_or slots i 0 ≡ id → member_of (get_or sets k none) id ≡ false
    slot_alone id i lo hi l e =
        is_false (member_of (get_or sets k none) id) (λ m.
        let s = count_some 32 (λ i. eqb (get_or slots i 0) id) i l (eq-eqb (get_or slots i 0) id e) in
        omega (arith, member_counted id m, a.places id lo hi, one_le (eqb (get_or states (id - 1) 0) 2)))

-- ---- how it is kept, where no array is too short for what is stored

module _ {p : Pool} (long : Shaped p) (a : Placed p) (k : ℕ) (below : k < 8) where
  abbrev mine : IdSet
  mine = set_at p k

  -- the worker and its set replaced, and with them slots and states: each id's places and what is wanted change alike
  pub replaced : (slots states : List ℕ) (x : Worker) (s : IdSet) → Carries x s
      → ((id : ℕ) → 1 ≤ id → id ≤ p.b
      → in_slots slots id + one (member_of s id) + wanted p.states id ≡ in_slots p.slot_id id + one (member_of mine id) + wanted states id)
      → Arrays p.b slots states (set p.workers k x) (set p.sets k s)
  replaced slots states x s h change =
      record {
        holds = λ j l. each j l (ℕ_discrete j k);
        places = λ id lo hi.
            omega (arith, change id lo hi, a.places id lo hi, count_set 8 (λ s. member_of s id) p.sets k s none below long.sets);
      }
    where
      each : (j : ℕ) → j < 8 → Dec (j ≡ k) → Carries (get_or (set p.workers k x) j no_worker) (get_or (set p.sets k s) j none)
      each j l (yes e) =
          let wl = long.workers in
          let sl = long.sets in
          rw (e, get_or-set_same p.workers k x no_worker (omega arith), get_or-set_same p.sets k s none (omega arith)) h
      each j l (no n) = rw (get_or-set_other p.workers k j x no_worker n, get_or-set_other p.sets k j s none n) (a.holds j l)

  pub worker_replaced : (x : Worker) → Carries x mine → Arrays p.b p.slot_id p.states (set p.workers k x) p.sets
  worker_replaced x h =
      subst (λ (l : List IdSet). Arrays p.b p.slot_id p.states (set p.workers k x) l) (set-get_or p.sets k none)
      (replaced p.slot_id p.states x mine h (λ id lo hi. refl))

  -- a slot's id replaced too, and no state
  pub slot_replaced : (i v : ℕ) (x : Worker) (s : IdSet) → i < 32 → Carries x s
      → ((id : ℕ) → 1 ≤ id → id ≤ p.b → one (eqb v id) + one (member_of s id) ≡ one (eqb (slot_at p i).id id) + one (member_of mine id))
      → Arrays p.b (set p.slot_id i v) p.states (set p.workers k x) (set p.sets k s)
  slot_replaced i v x s l h change =
      replaced (set p.slot_id i v) p.states x s h (λ id lo hi.
      omega (arith, change id lo hi, count_set 32 (λ n. eqb n id) p.slot_id i v 0 l long.slot_ids))

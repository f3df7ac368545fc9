-- What a record's places tell of its slots and sets, seen as functions. Assumes nothing.
use mathlib.Core.Path.{◌≡◌, refl, sym, ap, ◌∙◌}
use mathlib.Core.Logic.{◌≢◌}
use mathlib.Core.Bool.{Bool, true, false, ◌&&◌, false≢true}
use mathlib.Core.List.{[]}
use Prim.Native.Nat.{ℕ, zero, suc, ◌≤◌, ◌<◌}
use native.Mathlib.Omega.{arith}
use lib.Dec.{eqb, leb}
use lib.ListN.{get_or, get_or-eq_default}
use borrow.Author.Tests.{eqb-true, eq-eqb, ne_eqb, leb-true}
use Rattle.basics.specs.Below.{one, count_below}
use Rattle.basics.proofs.All.{all_at}
use Rattle.basics.proofs.Count.{one_le, count_some}
use Rattle.basics.proofs.Truth.{and_left, and_right, by_order}
use Rattle.idset.specs.declared.IdSet.{IdSet}
use Rattle.idset.specs.Members.{member_of, is_id}
use Rattle.idset.proofs.Digits.{digit_none}
use Rattle.idset.proofs.Within.{within_true}
use Rattle.worker.specs.declared.Worker.{Worker}
use Rattle.worker.specs.Registers.{no_worker}
use Rattle.pool.specs.declared.Pool.{Pool}
use Rattle.pool.specs.Record.{slot_at, state_of, worker_at, set_at, posted_at}
use Rattle.pool.specs.Sound.{sound_of, guard_ids, worker_ids}
use Rattle.pool.proofs.Parts.{parts}
use Rattle.rules.specs.Shaped.{Shaped}
use Rattle.history.proofs.Changed.{by_eq, not_pos}
use Rattle.history.proofs.Placed.{gives, tries, Placed, wanted, member_wanted, slot_alone}
use Rattle.history.proofs.Moves.{Mover, mover}
use Rattle.history.proofs.Buck.{Spread}

-- ---- a record's workers

abbrev pub seen : Worker → IdSet → Mover
seen x s = mover x.label x.i x.v x.h x.attempts x.max (λ b. one (member_of s b))

abbrev pub mover_at : Pool → ℕ → Mover
mover_at p k = seen (worker_at p k) (set_at p k)

-- ---- small laws

count_two : (n : ℕ) (f : ℕ → Bool) (j k : ℕ) → j < n → k < n → j ≢ k → f j ≡ true → f k ≡ true → 2 ≤ count_below n f
unfolding count_below
count_two zero f j k a b d x y = absurd (omega arith)
count_two (suc n) f j k a b d x y =
    by_eq j n
    (λ e. let s = count_some n f k (omega arith) y in let t : one (f n) ≡ 1 = ap one (sym (ap f e) ∙ x) in omega arith)
    (λ m. by_eq k n
    (λ e. let s = count_some n f j (omega arith) x in let t : one (f n) ≡ 1 = ap one (sym (ap f e) ∙ y) in omega arith)
    (λ o. omega (arith, count_two n f j k (omega arith) (omega arith) d x y)))

one_true : (t : Bool) → 0 < one t → t ≡ true
one_true true l = refl
one_true false l = absurd (omega arith)

one_eq : (t : Bool) → one t ≡ 1 → t ≡ true
one_eq t e = one_true t (omega arith)

no_words : (b : ℕ) → member_of (record { words = [] }) b ≡ false
unfolding member_of
no_words b = rw (digit_none) (no (is_id b))
  where
    no : (x : Bool) → (x && false) ≡ false
    no true = refl
    no false = refl

early : (l : ℕ) → l < 12 → gives l ≡ false
early l h =
    rw (ne_eqb l 12 (λ e. omega arith), ne_eqb l 13 (λ e. omega arith), ne_eqb l 15 (λ e. omega arith), ne_eqb l 18 (λ e. omega arith), ne_eqb l 22 (λ e. omega arith), ne_eqb l 25 (λ e. omega arith), ne_eqb l 28 (λ e. omega arith), ne_eqb l 31 (λ e. omega arith), ne_eqb l 32 (λ e. omega arith))

module _ (p : Pool) (sound : sound_of p ≡ true) (long : Shaped p) (a : Placed p) where
  abbrev mine : ℕ → ℕ → ℕ
  mine k b = one (member_of (set_at p k) b)

  -- ---- beyond the arrays there is nothing

  slot_below : (g : ℕ) → 0 < (slot_at p g).id → g < 32
  slot_below g l =
      by_order 32 g (λ far. let z : (slot_at p g).id ≡ 0 = get_or-eq_default p.slot_id 0 (omega (arith, long.slot_ids)) in absurd (omega arith)) (λ near. near)

  set_below : (k b : ℕ) → member_of (set_at p k) b ≡ true → k < 8
  set_below k b m =
      by_order 8 k (λ far.
      let z : set_at p k ≡ record { words = [] } = get_or-eq_default p.sets (record { words = [] }) (omega (arith, long.sets)) in
      absurd (false≢true (sym (no_words b) ∙ sym (ap (λ (s : IdSet). member_of s b) z) ∙ m)))
      (λ near. near)

  -- ---- ids

  slot_id_lem : (g : ℕ) → g < 32 → (slot_at p g).id ≤ p.b
  slot_id_lem g l = leb-true _ _ (and_right (leb (posted_at p g) p.b) _ (all_at 32 (guard_ids p) (parts sound).guard_ids_lem g l))

  pub posted_id : (g : ℕ) → g < 32 → posted_at p g ≤ p.b
  posted_id g l = leb-true _ _ (and_left (leb (posted_at p g) p.b) _ (all_at 32 (guard_ids p) (parts sound).guard_ids_lem g l))

  set_id : (k b : ℕ) → k < 8 → member_of (set_at p k) b ≡ true → b ≤ p.b
  set_id k b l m =
      within_true (set_at p k) p.b
      (and_right (leb (worker_at p k).v p.b && leb (worker_at p k).h.id p.b) _
      (all_at 8 (worker_ids p) (parts sound).worker_ids_lem k l)) b m

  leaves : (id : ℕ) → wanted p.states id ≡ 1 → state_of p id ≡ 2
  leaves id e = eqb-true _ _ (one_eq _ e)

  slot_counted : (g : ℕ) → 0 < (slot_at p g).id → 0 < count_below 32 (λ i. eqb (get_or p.slot_id i 0) (slot_at p g).id)
  slot_counted g l = count_some 32 (λ i. eqb (get_or p.slot_id i 0) (slot_at p g).id) g (slot_below g l) (eq-eqb (slot_at p g).id (slot_at p g).id refl)

  pub spread : Spread (slot_at p) (state_of p) (mover_at p)
  spread =
      record {
        slot_leaves = λ g l.
            leaves _ (omega (arith, slot_counted g l, a.places (slot_at p g).id l (slot_id_lem g (slot_below g l)), one_le (eqb (state_of p (slot_at p g).id) 2)));
        set_leaves = λ k b l m.
            let t = one_true _ m in
            let near = set_below k b t in
            leaves b (member_wanted a k near b l (set_id k b near t) t);
        slot_set = λ g k l. not_pos _ (λ m.
            let t = one_true _ m in
            let near = set_below k _ t in
            absurd (false≢true (sym (slot_alone a k near (slot_at p g).id g l (slot_id_lem g (slot_below g l)) (slot_below g l) refl) ∙ t)));
        set_set = λ k j b n l m. not_pos _ (λ o.
            let t = one_true _ m in
            let u : member_of (set_at p j) b ≡ true = one_true _ o in
            let near = set_below k b t in
            omega (
              arith,
              count_two 8 (λ k. member_of (set_at p k) b) k j near (set_below j b u) n t u,
              a.places b l (set_id k b near t),
              one_le (eqb (state_of p b) 2),
            ));
        empty = λ k b l. not_pos _ (λ m.
            let t = one_true _ m in
            absurd (false≢true (sym ((a.holds k (set_below k b t)).outside (early (worker_at p k).label l) b) ∙ t)));
        has = λ k n e t. has k n e t;
      }
    where
      -- a worker at a label is one of the eight
      has : (k n : ℕ) → (worker_at p k).label ≡ n → tries n ≡ true → mine k (worker_at p k).v ≡ 1
      has k n e t =
          by_order 8 k (λ far.
          let z : worker_at p k ≡ no_worker = get_or-eq_default p.workers no_worker (omega (arith, long.workers)) in
          absurd (false≢true (ap tries (sym (ap (λ (x : Worker). x.label) z) ∙ e) ∙ t)))
          (λ near. ap one ((a.holds k near).trying (ap tries e ∙ t)))

-- A buffer that a guard holds stays in a slot no higher than the guard, or in the set of a worker that has not
-- passed it; p, q and r are workers' numbers less 1. Assumes nothing.
use mathlib.Core.Path.{◌≡◌, refl, ap, sym, ◌∙◌}
use mathlib.Core.Logic.{◌≢◌, ◌⊎◌, inl, inr}
use mathlib.Core.Bool.{true}
use Prim.Native.Nat.{ℕ, ◌+◌, ◌≤◌, ◌<◌}
use native.Mathlib.Omega.{arith}
use lib.Dec.{eqb}
use borrow.Author.Tests.{eq-eqb, ne_eqb}
use Rattle.basics.specs.Below.{one}
use Rattle.worker.specs.declared.Slot.{Slot}
use Rattle.history.specs.Holds.{changed}
use Rattle.history.proofs.Changed.{changed_case, by_eq, not_pos}
use Rattle.history.proofs.Moves.{Mover, mover, Desk, Walk, w12a, w12b, w13, w15a, w15b, w18n, w22a, w22b, w25a, w25b, w25c, w28n, w31, Store, exchanges, collects}
use Rattle.history.proofs.Guards.{Guards}
use Rattle.history.proofs.Placed.{tries}

-- Where buffers are: one in a slot or a set is leaving, and is in no other; a worker outside of a give-up has an empty set, and one about to
-- put v into a slot has it.
pub record Spread (slot : ℕ → Slot) (st : ℕ → ℕ) (w : ℕ → Mover) : Type 0 where
  pub slot_leaves : (g : ℕ) → 0 < (slot g).id → st (slot g).id ≡ 2
  pub set_leaves : (p b : ℕ) → 0 < b → 0 < (w p).member b → st b ≡ 2
  pub slot_set : (g p : ℕ) → 0 < (slot g).id → (w p).member (slot g).id ≡ 0
  pub set_set : (p q b : ℕ) → p ≢ q → 0 < b → 0 < (w p).member b → (w q).member b ≡ 0
  pub empty : (p b : ℕ) → (w p).label < 12 → (w p).member b ≡ 0
  pub has : (p n : ℕ) → (w p).label ≡ n → tries n ≡ true → (w p).member (w p).v ≡ 1

abbrev HasV : Mover → Type 0
HasV x = (n : ℕ) → x.label ≡ n → tries n ≡ true → x.member x.v ≡ 1

is_yes : (a b : ℕ) → a ≡ b → one (eqb a b) ≡ 1
is_yes a b e = ap one (eq-eqb a b e)

is_no : (a b : ℕ) → a ≢ b → one (eqb a b) ≡ 0
is_no a b n = ap one (ne_eqb a b n)

-- A worker, at a guard with the slot sl, that holds ho.
pub record Runner (sl : Slot) (ho : ℕ) (x : Mover) : Type 0 where
  pub old : 15 ≤ x.label → x.label ≤ 28 → x.h.version ≤ sl.version
  pub first : x.label ≡ 15 → x.attempts ≡ 0
  pub differ : x.label ≡ 22 → x.h.id ≡ sl.id → x.h.version ≡ sl.version → ⊥
  pub stuck : 0 < ho → sl.id ≡ ho → x.h.id ≡ sl.id → x.h.version ≡ sl.version → (x.label ≢ 18) × (x.label ≡ 28 → x.v ≡ ho)
  pub keen : 0 < ho → 0 < x.member ho → 18 ≤ x.label → (x.label ≤ 25) × (x.v ≡ ho)
  pub last : 0 < ho → 0 < x.member ho → 18 ≤ x.label → x.attempts ≡ 2 → (sl.id ≡ 0) × (x.h.id ≡ sl.id) × (x.h.version ≡ sl.version)
  pub next : 0 < ho → 0 < x.member ho → 18 ≤ x.label → x.attempts ≡ 1 → 0 < sl.id → (x.h.id ≡ sl.id) × (x.h.version ≡ sl.version)

abbrev pub RunnerAt : (ℕ → Slot) → (ℕ → ℕ) → Mover → Type 0
RunnerAt slot hold x = Runner (slot x.i) (hold x.i) x

-- Worker x has the held buffer, and y is about to store to the slot.
abbrev pub Race : Slot → ℕ → Mover → Mover → Type 0
Race sl ho x y = y.i ≡ x.i → 0 < ho → 0 < x.member ho → 15 ≤ x.label → x.label ≤ 25 → y.label ≡ 18 → y.h.id ≡ sl.id → y.h.version ≡ sl.version →
    (x.h.id ≡ sl.id) × (x.h.version ≡ sl.version) × (x.attempts ≡ 0)

-- Worker x has the buffer that guard g holds.
abbrev pub Ahead : ℕ → ℕ → Mover → Type 0
Ahead g ho x = 0 < ho → 0 < x.member ho → (x.label ≤ 31) × (x.i ≤ g)

pub record Buck (slot : ℕ → Slot) (hold : ℕ → ℕ) (w : ℕ → Mover) : Type 0 where
  pub runner : (p : ℕ) → RunnerAt slot hold (w p)
  pub race : (p q : ℕ) → p ≢ q → Race (slot (w p).i) (hold (w p).i) (w p) (w q)
  pub ahead : (g p : ℕ) → Ahead g (hold g) (w p)
  pub over : (g h : ℕ) → g < h → 0 < hold g → (slot h).id ≢ hold g

-- Worker p alone moves.
rebuild : (slot : ℕ → Slot) (hold : ℕ → ℕ) (w : ℕ → Mover) (p : ℕ) (x : Mover) →
    RunnerAt slot hold x → ((q : ℕ) → q ≢ p → RunnerAt slot hold (w q)) →
    ((q : ℕ) → q ≢ p → Race (slot x.i) (hold x.i) x (w q)) → ((q : ℕ) → q ≢ p → Race (slot (w q).i) (hold (w q).i) (w q) x) →
    ((q r : ℕ) → q ≢ p → r ≢ p → q ≢ r → Race (slot (w q).i) (hold (w q).i) (w q) (w r)) →
    ((g : ℕ) → Ahead g (hold g) x) → ((g q : ℕ) → Ahead g (hold g) (w q)) → ((g h : ℕ) → g < h → 0 < hold g → (slot h).id ≢ hold g) →
    Buck slot hold (changed w p x)
rebuild slot hold w p x own others from to rest mine theirs over = record {
  runner = λ q. changed_case (λ y. RunnerAt slot hold y) w p x q (λ _. own) (others q);
  race = λ q r n. changed_case (λ y. Race (slot y.i) (hold y.i) y (changed w p x r)) w p x q
      (λ e. changed_case (λ y. Race (slot x.i) (hold x.i) x y) w p x r (λ f. absurd (n (e ∙ sym f))) (λ m. from r m))
      (λ m. changed_case (λ y. Race (slot (w q).i) (hold (w q).i) (w q) y) w p x r (λ _. to q m) (λ k. rest q r m k n));
  ahead = λ g q. changed_case (λ y. Ahead g (hold g) y) w p x q (λ _. mine g) (λ _. theirs g q);
  over = over;
}

-- A hold that stays as it was, or is on a buffer that is not leaving.
abbrev pub Stays : (ℕ → ℕ) → ℕ → ℕ → Type 0
Stays st old new = (new ≡ old) ⊎ (0 < new → st new ≢ 2)

by_stay : (st : ℕ → ℕ) (P : ℕ → Type 0) {old new : ℕ} → Stays st old new → P old → ((0 < new → st new ≢ 2) → P new) → P new
by_stay st P (inl e) same begun = rw e same
by_stay st P (inr f) same begun = begun f

module _ (slot : ℕ → Slot) (hold : ℕ → ℕ) (w : ℕ → Mover) (inv : Buck slot hold w) where
  -- A worker that is not in the middle of a guard.
  pub reset : (p : ℕ) (x : Mover) → x.label < 15 → ((g : ℕ) → Ahead g (hold g) x) → Buck slot hold (changed w p x)
  reset p x l f = rebuild slot hold w p x
      (omega arith) (λ q _. inv.runner q) (λ q _. omega arith) (λ q _. omega arith) (λ q r _ _ n. inv.race q r n)
      f inv.ahead inv.over

  -- Holds may end, and a hold may begin on a buffer that is not leaving.
  pub rehold : (st hold' : ℕ → ℕ) → Spread slot st w → ((g : ℕ) → Stays st (hold g) (hold' g)) → Buck slot hold' w
  rehold st hold' sp law = record {
    runner = λ p. by_stay st (λ b. Runner (slot (w p).i) b (w p)) (law (w p).i) (inv.runner p) (λ f. let r = inv.runner p in record {
      old = r.old;
      first = r.first;
      differ = r.differ;
      stuck = λ l e. absurd (at (w p).i _ f l e);
      keen = λ l m. absurd (out p _ f l m);
      last = λ l m. absurd (out p _ f l m);
      next = λ l m. absurd (out p _ f l m);
    });
    race = λ p q n. by_stay st (λ b. Race (slot (w p).i) b (w p) (w q)) (law (w p).i) (inv.race p q n) (λ f _ l m. absurd (out p _ f l m));
    ahead = λ g p. by_stay st (λ b. Ahead g b (w p)) (law g) (inv.ahead g p) (λ f l m. absurd (out p _ f l m));
    over = λ g h. by_stay st (λ b. g < h → 0 < b → (slot h).id ≢ b) (law g) (inv.over g h) (λ f _ l e. at h _ f l e);
  }
    where
      out : (p b : ℕ) → (0 < b → st b ≢ 2) → 0 < b → 0 < (w p).member b → ⊥
      out p b f l m = f l (sp.set_leaves p b l m)

      at : (g b : ℕ) → (0 < b → st b ≢ 2) → 0 < b → (slot g).id ≡ b → ⊥
      at g b f l e = f l (sym (ap st e) ∙ sp.slot_leaves g (omega arith))

-- A worker past its attempts at a guard, which does not carry what the guard holds.
passed : (sl : Slot) (ho : ℕ) (x : Mover) → 28 < x.label → (0 < ho → 0 < x.member ho → ⊥) → Runner sl ho x
passed sl ho x after lacks = record {
  old = omega arith;
  first = omega arith;
  differ = omega arith;
  stuck = omega arith;
  keen = λ a b _. absurd (lacks a b);
  last = λ a b _ _. absurd (lacks a b);
  next = λ a b _ _ _. absurd (lacks a b);
}

-- The worker that walks: m is MAXG, po the posted id at its guard.
walk_runner : (slot : ℕ → Slot) (hold : ℕ → ℕ) (m po : ℕ) (x x' : Mover) → Walk m po (slot x.i) x x' → RunnerAt slot hold x → HasV x →
    (0 < hold x.i → (po ≡ hold x.i) × (x.i ≤ m)) → (0 < (slot x.i).id → x.member (slot x.i).id ≡ 0) → RunnerAt slot hold x'
walk_runner slot hold m po x x' (w12a e) r s f z = omega arith
walk_runner slot hold m po x x' (w12b e l) r s f z = passed _ _ _ (omega arith) (λ a _. omega (arith, f a))
walk_runner slot hold m po x x' (w13 e) r s f z = omega arith
walk_runner slot hold m po x x' (w15a e l k) r s f z = record {
  old = λ _ _. r.old (omega arith) (omega arith);
  first = omega arith;
  differ = omega arith;
  stuck = λ a b _ _. absurd (omega (arith, ap x.member ((f a).0 ∙ sym b), z (omega arith)));
  keen = λ a _ _. (omega arith, (f a).0);
  last = λ _ _ _ a. absurd (omega (arith, r.first e));
  next = λ _ _ _ a _. absurd (omega (arith, r.first e));
}
walk_runner slot hold m po x x' (w15b e k) r s f z =
    let no : 0 < hold x.i → 0 < x.member (hold x.i) → ⊥ = λ a b. omega (arith, ap x.member (f a).0, k (omega (arith, f a))) in record {
      old = λ _ _. r.old (omega arith) (omega arith);
      first = omega arith;
      differ = omega arith;
      stuck = λ a _ _ _. (omega arith, λ _. (f a).0);
      keen = λ a b _. absurd (no a b);
      last = λ a b _ _. absurd (no a b);
      next = λ a b _ _ _. absurd (no a b);
    }
walk_runner slot hold m po x x' (w18n e n) r s f z = record {
  old = λ _ _. r.old (omega arith) (omega arith);
  first = omega arith;
  differ = λ _. n;
  stuck = omega arith;
  keen = λ a b _. (omega arith, (r.keen a b (omega arith)).1);
  last = λ a b _. r.last a b (omega arith);
  next = λ a b _. r.next a b (omega arith);
}
walk_runner slot hold m po x x' (w22a e t) r s f z = passed _ _ _ (omega arith) (λ a b. let k = r.last a b (omega arith) t in r.differ e k.1 k.2)
walk_runner slot hold m po x x' (w22b e t) r s f z = record {
  old = omega arith;
  first = omega arith;
  differ = omega arith;
  stuck = omega arith;
  keen = λ a b _. (omega arith, (r.keen a b (omega arith)).1);
  last = λ a b _ q. (not_pos _ (λ l. let k = r.next a b (omega arith) (omega arith) l in r.differ e k.0 k.1), refl, refl);
  next = λ _ _ _ _ _. (refl, refl);
}
walk_runner slot hold m po x x' (w25a e t l) r s f z = passed _ _ _ (omega arith) (λ a b. omega (arith, r.last a b (omega arith) t))
walk_runner slot hold m po x x' (w25b e n) r s f z = passed _ _ _ (omega arith) (λ a b. n ((r.keen a b (omega arith)).1 ∙ sym (f a).0))
walk_runner slot hold m po x x' (w25c e q) r s f z = record {
  old = λ _ _. r.old (omega arith) (omega arith);
  first = omega arith;
  differ = omega arith;
  stuck = λ a b _ _. absurd (omega (arith, ap x.member (q ∙ (f a).0 ∙ sym b), s 25 e refl, z (omega arith)));
  keen = λ a b _. (omega arith, (r.keen a b (omega arith)).1);
  last = λ a b _. r.last a b (omega arith);
  next = λ a b _. r.next a b (omega arith);
}
walk_runner slot hold m po x x' (w28n e) r s f z = passed _ _ _ (omega arith) (λ a b. omega (arith, r.keen a b (omega arith)))
walk_runner slot hold m po x x' (w31 e) r s f z = omega arith

-- It has the held buffer, and y is about to store.
walk_from : (slot : ℕ → Slot) (hold : ℕ → ℕ) (m po : ℕ) (x x' y : Mover) → Walk m po (slot x.i) x x' → RunnerAt slot hold x →
    Race (slot x.i) (hold x.i) x y → Race (slot x'.i) (hold x'.i) x' y
walk_from slot hold m po x x' y (w12a e) r k = omega arith
walk_from slot hold m po x x' y (w12b e l) r k = omega arith
walk_from slot hold m po x x' y (w13 e) r k = omega arith
walk_from slot hold m po x x' y (w15a e l t) r k = λ i a b _ _. k i a b (omega arith) (omega arith)
walk_from slot hold m po x x' y (w15b e t) r k = omega arith
walk_from slot hold m po x x' y (w18n e n) r k = λ i a b _ _. k i a b (omega arith) (omega arith)
walk_from slot hold m po x x' y (w22a e t) r k = omega arith
walk_from slot hold m po x x' y (w22b e t) r k = λ i a b _ _ l c d. let z = k i a b (omega arith) (omega arith) l c d in absurd (r.differ e z.0 z.1)
walk_from slot hold m po x x' y (w25a e t l) r k = omega arith
walk_from slot hold m po x x' y (w25b e n) r k = omega arith
walk_from slot hold m po x x' y (w25c e q) r k = λ i a b _ _. k i a b (omega arith) (omega arith)
walk_from slot hold m po x x' y (w28n e) r k = omega arith
walk_from slot hold m po x x' y (w31 e) r k = omega arith

-- It comes to label 18 only with what is posted in its set.
walk_store : {m po : ℕ} {sl : Slot} {x x' : Mover} → Walk m po sl x x' → HasV x → x'.label ≡ 18 → (x'.i ≡ x.i) × (0 < x.member po)
walk_store (w12a e) s t = absurd (omega arith)
walk_store (w12b e l) s t = absurd (omega arith)
walk_store (w13 e) s t = absurd (omega arith)
walk_store (w15a e l k) s t = (refl, omega arith)
walk_store (w15b e k) s t = absurd (omega arith)
walk_store (w18n e n) s t = absurd (omega arith)
walk_store (w22a e k) s t = absurd (omega arith)
walk_store (w22b e k) s t = absurd (omega arith)
walk_store (w25a e k l) s t = absurd (omega arith)
walk_store (w25b e n) s t = absurd (omega arith)
walk_store {x} (w25c e q) s t = (refl, omega (arith, ap x.member q, s 25 e refl))
walk_store (w28n e) s t = absurd (omega arith)
walk_store (w31 e) s t = absurd (omega arith)

walk_ahead : (slot : ℕ → Slot) (hold : ℕ → ℕ) (g m po : ℕ) (x x' : Mover) → Walk m po (slot x.i) x x' → RunnerAt slot hold x → (0 < hold g → g ≤ m) →
    Ahead g (hold g) x → Ahead g (hold g) x'
walk_ahead slot hold g m po x x' (w12a e) r f k = λ a b. omega (arith, k a b)
walk_ahead slot hold g m po x x' (w12b e l) r f k = λ a b. omega (arith, k a b, f a)
walk_ahead slot hold g m po x x' (w13 e) r f k = λ a b. omega (arith, k a b)
walk_ahead slot hold g m po x x' (w15a e l t) r f k = λ a b. omega (arith, k a b)
walk_ahead slot hold g m po x x' (w15b e t) r f k = λ a b. omega (arith, k a b)
walk_ahead slot hold g m po x x' (w18n e n) r f k = λ a b. omega (arith, k a b)
walk_ahead slot hold g m po x x' (w22a e t) r f k = λ a b. omega (arith, k a b)
walk_ahead slot hold g m po x x' (w22b e t) r f k = λ a b. omega (arith, k a b)
walk_ahead slot hold g m po x x' (w25a e t l) r f k = λ a b. omega (arith, k a b)
walk_ahead slot hold g m po x x' (w25b e n) r f k = λ a b. omega (arith, k a b)
walk_ahead slot hold g m po x x' (w25c e q) r f k = λ a b. omega (arith, k a b)
walk_ahead slot hold g m po x x' (w28n e) r f k = λ a b. omega (arith, k a b)
walk_ahead slot hold g m po x x' (w31 e) r f k = λ a b.
    let n : x.i ≢ g = λ q. omega (arith, r.keen (rw q a) (rw q b) (omega arith)) in omega (arith, k a b)

-- A store is of one of two kinds.
abbrev Kind : Mover → ℕ → Type 0
Kind x c = ((x.label ≡ 18) × (c ≡ x.v)) ⊎ ((x.label ≡ 28) × (c ≡ 0) × (0 < x.h.id) × (x.h.id ≢ x.v))

kind : {x : Mover} {c : ℕ} → Store x c → Kind x c
kind (exchanges e) = inl (e, refl)
kind (collects e z d) = inr (e, refl, z, d)

not_lt : {a b : ℕ} → (b < a → ⊥) → a ≤ b
not_lt f = let g : ¬ _ = f in omega arith

module _ (d : Desk) (slot : ℕ → Slot) (st : ℕ → ℕ) (w : ℕ → Mover) (gu : Guards d w) (sp : Spread slot st w) (inv : Buck slot d.holds w) (p : ℕ) where
  abbrev here : ℕ
  here = (w p).i

  pub walk_buck : (x' : Mover) → Walk d.maxg (d.posted here) (slot here) (w p) x' → Buck slot d.holds (changed w p x')
  walk_buck x' s = rebuild slot d.holds w p x'
      (walk_runner slot d.holds _ _ (w p) x' s (inv.runner p) (sp.has p) (gu.guard here).stands (sp.slot_set here p))
      (λ q _. inv.runner q)
      (λ q n. walk_from slot d.holds _ _ (w p) x' (w q) s (inv.runner p) (inv.race p q (λ e. n (sym e))))
      (λ q n i a b _ _ l _ _.
      let k = walk_store s (sp.has p) l in
      let e = ap d.holds (sym k.0 ∙ i) in
      let z = sp.set_set q p (d.holds (w q).i) n a b in
      absurd (omega (arith, k.1, ap (w p).member (((gu.guard here).stands (omega arith)).0 ∙ e))))
      (λ q r _ _ n. inv.race q r n)
      (λ g. walk_ahead slot d.holds g _ _ (w p) x' s (inv.runner p) (λ a. ((gu.guard g).stands a).1) (inv.ahead g p))
      inv.ahead inv.over

  module _ (c : ℕ) (m : ℕ → ℕ) (hi : (w p).h.id ≡ (slot here).id) (hv : (w p).h.version ≡ (slot here).version) (s : Store (w p) c)
      (B : ℕ) (low : (g : ℕ) → d.holds g ≤ B) (law : (b : ℕ) → 0 < b → b ≤ B → one (eqb c b) + m b ≡ one (eqb (slot here).id b) + (w p).member b) where
    -- after a store the worker has not the buffer that this guard holds
    gone : Kind (w p) c → 0 < d.holds here → 0 < m (d.holds here) → ⊥
    gone (inl k) a b = by_eq (slot here).id (d.holds here)
        (λ e. ((inv.runner p).stuck a e hi hv).0 k.0)
        (λ n.
        let t = is_no _ _ n in
        let z = law (d.holds here) a (low here) in
        let v = ((inv.runner p).keen a (omega arith) (omega arith)).1 in
        omega (arith, is_yes c (d.holds here) (k.1 ∙ v), ap (w p).member v, sp.has p 18 k.0 refl))
    gone (inr k) a b = by_eq (slot here).id (d.holds here)
        (λ e. k.3 (hi ∙ e ∙ sym (((inv.runner p).stuck a e hi hv).1 k.0)))
        (λ n. let t = is_no _ _ n in let z = law (d.holds here) a (low here) in omega (arith, (inv.runner p).keen a (omega arith) (omega arith)))

    -- another worker with the held buffer, at the same guard: it loses no more than its first attempt to a worker at 18, and finds the slot empty after one at 28
    other : Kind (w p) c → (q : ℕ) → q ≢ p → (w q).i ≡ here → Runner (record { id = c; version = (slot here).version + 1 }) (d.holds (w q).i) (w q)
    other k q n e =
        let r = inv.runner q in
        let sv : (slot (w q).i).version ≡ (slot here).version = ap (λ g. (slot g).version) e in
        let si : (slot (w q).i).id ≡ (slot here).id = ap (λ g. (slot g).id) e in
        record {
          old = λ a b. omega (arith, r.old a b);
          first = r.first;
          differ = λ a _ b. omega (arith, r.old (omega arith) (omega arith));
          stuck = λ _ _ _ b. (λ l. omega (arith, r.old (omega arith) (omega arith)), λ l. absurd (omega (arith, r.old (omega arith) (omega arith))));
          keen = r.keen;
          last = λ a b l t. absurd (late k si sv a b l (λ _. (r.last a b l t).0) (omega arith));
          next = λ a b l t z. absurd (late k si sv a b l (λ f. absurd (omega (arith, f))) (omega arith));
        }
      where
        late : Kind (w p) c → (slot (w q).i).id ≡ (slot here).id → (slot (w q).i).version ≡ (slot here).version → 0 < d.holds (w q).i → 0 < (w q).member (d.holds (w q).i) → 18 ≤ (w q).label →
            (c ≡ 0 → (slot (w q).i).id ≡ 0) → 0 < (w q).attempts → ⊥
        late (inl k) si sv a b l f t = omega (arith, inv.race q p n (sym e) a b (omega arith) ((inv.runner q).keen a b l).0 k.0 (hi ∙ sym si) (hv ∙ sym sv))
        late (inr k) si sv a b l f t = omega (arith, f k.1)

    mine : Kind (w p) c → (g : ℕ) → 0 < d.holds g → 0 < m (d.holds g) → (31 ≤ 31) × (here ≤ g)
    mine k g a b = by_eq (slot here).id (d.holds g)
        (λ e. (omega arith, not_lt (λ l. inv.over g here l a e)))
        (λ n. let z = law (d.holds g) a (low g) in let t = is_no _ _ n in (omega arith, (inv.ahead g p a (omega arith)).1))

    pub store_buck : Buck (changed slot here (record { id = c; version = (slot here).version + 1 })) d.holds (changed w p (mover 31 here (w p).v (w p).h (w p).attempts (w p).max m))
    store_buck =
        let k = kind s in
        let sl : Slot = record { id = c; version = (slot here).version + 1 } in
        rebuild _ d.holds w p _
        (passed _ _ _ (omega arith) (gone k))
        (λ q n. changed_case (λ t. Runner t (d.holds (w q).i) (w q)) slot here sl (w q).i (other k q n) (λ _. inv.runner q))
        (λ q n. omega arith) (λ q n. omega arith)
        (λ q r _ _ n. changed_case (λ t. Race t (d.holds (w q).i) (w q) (w r)) slot here sl (w q).i
        (λ e i _ _ _ _ l _ b. absurd (omega (arith, (inv.runner r).old (omega arith) (omega arith), ap (λ g. (slot g).version) (i ∙ e)))) (λ _. inv.race q r n))
        (mine k) inv.ahead
        (λ g h l a. changed_case (λ t. t.id ≢ d.holds g) slot here sl h (λ e f. up k g h l a e f) (λ _. inv.over g h l a))
      where
        up : Kind (w p) c → (g h : ℕ) → g < h → 0 < d.holds g → h ≡ here → c ≡ d.holds g → ⊥
        up (inl k) g h l a e f = omega (arith, inv.ahead g p a (omega (arith, ap (w p).member (sym f ∙ k.1), sp.has p 18 k.0 refl)))
        up (inr k) g h l a e f = omega arith

-- A record and what the history says of posts and holds: the invariant, and the ways that a worker's move keeps it. Assumes nothing.
use mathlib.Core.Path.{◌≡◌, refl, ap, ap₂, ◌∙◌, subst⁻¹}
use mathlib.Core.Logic.{◌≢◌, inl}
use mathlib.Core.Bool.{true}
use mathlib.Core.List.{[]}
use Prim.Native.Nat.{ℕ, ◌+◌, ◌≤◌, ◌<◌}
use native.Mathlib.Omega.{arith}
use lib.Dec.{eqb}
use lib.ListN.{get_or, set}
use lib.Seq.{get_or-set_same, get_or-set_other}
use Rattle.basics.specs.Below.{one}
use Rattle.idset.specs.declared.IdSet.{IdSet}
use Rattle.idset.specs.Members.{member_of}
use Rattle.worker.specs.declared.Worker.{Worker}
use Rattle.worker.specs.declared.Slot.{Slot}
use Rattle.worker.specs.Registers.{no_worker, to}
use Rattle.pool.specs.declared.Pool.{Pool}
use Rattle.pool.specs.Record.{taken_at, employer_at, posted_at, slot_at, state_of, worker_at, set_at, with_worker, with_set}
use Rattle.pool.specs.Sound.{sound_of}
use Rattle.pool.specs.Steps.{i_of, refilled}
use Rattle.pool.proofs.Parts.{sizes_of}
use Rattle.rules.specs.Shaped.{Shaped}
use Rattle.history.specs.Holds.{changed}
use Rattle.history.specs.History.{History}
use Rattle.history.proofs.Changed.{by_eq, changed_case, changed_ext}
use Rattle.history.proofs.Heard.{Agrees}
use Rattle.history.proofs.Placed.{Placed}
use Rattle.history.proofs.Moves.{Mover, Desk, desk, Serve, hire, s2y, s2n, s2e, s4a, s4b, s5y, s5n, s6, fire, s7, s8, post, s9, s10, Walk, w12a, w12b, w13, w15a, w15b, w18n, w22a, w22b, w25a, w25b, w25c, w28n, w31, Store}
use Rattle.history.proofs.Guards.{Guards, off_desk, serve_guards}
use Rattle.history.proofs.Buck.{Buck, Ahead, Stays, reset, rehold, walk_buck, store_buck}
use Rattle.history.proofs.Spread.{seen, mover_at, spread, posted_id}

abbrev pub desk_of : Pool → (ℕ → ℕ) → Desk
desk_of p holds = desk p.maxg (λ i. one (taken_at p i)) (employer_at p) (posted_at p) holds

-- a worker that posts does so on guard g and buffer b
abbrev pub Recalls : ℕ → ℕ → Mover → Type 0
Recalls g b x = 9 ≤ x.label → x.label ≤ 10 → (g ≡ x.i) × (b ≡ x.v)

-- by the history pg and pb are the guard and buffer of each worker's latest post, and holds is what each guard holds
pub record Watching (p : Pool) (pg pb holds : ℕ → ℕ) : Type 0 where
  pub recalls : (k : ℕ) → Recalls (pg (k + 1)) (pb (k + 1)) (mover_at p k)
  pub guards : Guards (desk_of p holds) (mover_at p)
  pub buck : Buck (slot_at p) holds (mover_at p)

-- a sound record, no array of it too short, with each buffer in its place, which agrees with its history
pub record Known (p : Pool) (h : History) : Type 0 where
  pub sound : sound_of p ≡ true
  pub shaped : Shaped p
  pub placed : Placed p
  pub agrees : Agrees p h.states
  pub watching : Watching p h.posts.guard_of h.posts.buffer_of h.posts.holds

-- ---- moves, by their labels

record Served (x' : Mover) (s : ℕ → ℕ) : Type 0 where
  after : x'.label < 12
  same : (b : ℕ) → x'.member b ≡ s b

served : {d : Desk} {k : ℕ} {x : Mover} {s : ℕ → ℕ} {d' : Desk} {x' : Mover} → Serve d k x s d' x' → Served x' s
served (hire e) = record { after = omega arith; same = λ b. refl }
served (s2y e t) = record { after = omega arith; same = λ b. refl }
served (s2n e) = record { after = omega arith; same = λ b. refl }
served (s2e e) = record { after = omega arith; same = λ b. refl }
served (s4a e l) = record { after = omega arith; same = λ b. refl }
served (s4b e l) = record { after = omega arith; same = λ b. refl }
served (s5y e l) = record { after = omega arith; same = λ b. refl }
served (s5n e) = record { after = omega arith; same = λ b. refl }
served (s6 e) = record { after = omega arith; same = λ b. refl }
served (fire g e f) = record { after = omega arith; same = λ b. refl }
served (s7 e) = record { after = omega arith; same = λ b. refl }
served (s8 e) = record { after = omega arith; same = λ b. refl }
served (post g b e f) = record { after = omega arith; same = λ b. refl }
served (s9 e) = record { after = omega arith; same = λ b. refl }
served (s10 c e f) = record { after = omega arith; same = λ b. refl }

walked : {m po : ℕ} {sl : Slot} {x x' : Mover} → Walk m po sl x x' → 12 ≤ x'.label
walked (w12a e) = omega arith
walked (w12b e l) = omega arith
walked (w13 e) = omega arith
walked (w15a e l m) = omega arith
walked (w15b e m) = omega arith
walked (w18n e n) = omega arith
walked (w22a e t) = omega arith
walked (w22b e t) = omega arith
walked (w25a e t l) = omega arith
walked (w25b e n) = omega arith
walked (w25c e q) = omega arith
walked (w28n e) = omega arith
walked (w31 e) = omega arith

module _ {p : Pool} {h : History} (known : Known p h) where
  open known use {sound, shaped, placed as a, watching as i}
  open h.posts use {guard_of as pg, buffer_of as pb, holds as ho}

  -- what a guard holds is a buffer of the pool
  pub hold_low : (g : ℕ) → ho g ≤ p.b
  hold_low g =
      by_eq (ho g) 0 (λ e. omega arith) (λ n.
      let s = (i.guards.guard g).stands (omega arith) in
      omega (arith, posted_id p sound shaped a g (omega (arith, sizes_of p sound)), s.0))

  module _ (k : ℕ) (below : k < 8) where
    abbrev x : Mover
    x = mover_at p k

    pub worker_moved : (y : Worker) → (λ (j : ℕ). seen (get_or (set p.workers k y) j no_worker) (set_at p j)) ≡ changed (mover_at p) k (seen y (set_at p k))
    worker_moved y =
        let workers-long = shaped.workers in
        changed_ext (mover_at p) (λ (j : ℕ). seen (get_or (set p.workers k y) j no_worker) (set_at p j)) k (seen y (set_at p k))
        (ap (λ (x : Worker). seen x (set_at p k)) (get_or-set_same p.workers k y no_worker (omega arith)))
        (λ j n. ap (λ (x : Worker). seen x (set_at p j)) (get_or-set_other p.workers k j y no_worker n))

    pub both_moved : (y : Worker) (s : IdSet)
        → (λ (j : ℕ). seen (get_or (set p.workers k y) j no_worker) (get_or (set p.sets k s) j (record { words = [] }))) ≡ changed (mover_at p) k (seen y s)
    both_moved y s =
        let workers-long = shaped.workers in
        let sets-long = shaped.sets in
        changed_ext (mover_at p) (λ (j : ℕ). seen (get_or (set p.workers k y) j no_worker) (get_or (set p.sets k s) j (record { words = [] }))) k (seen y s)
        (ap₂ (λ (x : Worker) (t : IdSet). seen x t) (get_or-set_same p.workers k y no_worker (omega arith)) (get_or-set_same p.sets k s (record { words = [] }) (omega arith)))
        (λ j n. ap₂ (λ (x : Worker) (t : IdSet). seen x t) (get_or-set_other p.workers k j y no_worker n) (get_or-set_other p.sets k j s (record { words = [] }) n))

    -- worker k alone moves, and what is recalled of the others stays
    rebuild : (p' : Pool) (pg' pb' ho' : ℕ → ℕ) (x' : Mover) → mover_at p' ≡ changed (mover_at p) k x'
        → Recalls (pg' (k + 1)) (pb' (k + 1)) x' → ((j : ℕ) → j ≢ k → (pg' (j + 1) ≡ pg (j + 1)) × (pb' (j + 1) ≡ pb (j + 1)))
        → Guards (desk_of p' ho') (changed (mover_at p) k x') → Buck (slot_at p') ho' (changed (mover_at p) k x') → Watching p' pg' pb' ho'
    rebuild p' pg' pb' ho' x' e own others g b =
        record {
          recalls = subst⁻¹ (λ (m : ℕ → Mover). (j : ℕ) → Recalls (pg' (j + 1)) (pb' (j + 1)) (m j)) e (λ j.
              changed_case (λ m. Recalls (pg' (j + 1)) (pb' (j + 1)) m) (mover_at p) k x' j (λ q. rw q own)
              (λ n l u. let r = i.recalls j l u in let o = others j n in (o.0 ∙ r.0, o.1 ∙ r.1)));
          guards = subst⁻¹ (λ (m : ℕ → Mover). Guards (desk_of p' ho') m) e g;
          buck = subst⁻¹ (λ (m : ℕ → Mover). Buck (slot_at p') ho' m) e b;
        }

    same_others : (j : ℕ) → j ≢ k → (pg (j + 1) ≡ pg (j + 1)) × (pb (j + 1) ≡ pb (j + 1))
    same_others j n = (refl, refl)

    -- a hire, a fire or a post, which leave the set s empty
    pub serves : (p' : Pool) (pg' pb' ho' s : ℕ → ℕ) (d' : Desk) (x' : Mover) → Serve (desk_of p ho) k x s d' x' → ((b : ℕ) → s b ≡ 0)
        → mover_at p' ≡ changed (mover_at p) k x' → desk_of p' ho' ≡ d' → slot_at p' ≡ slot_at p
        → Recalls (pg' (k + 1)) (pb' (k + 1)) x' → ((j : ℕ) → j ≢ k → (pg' (j + 1) ≡ pg (j + 1)) × (pb' (j + 1) ≡ pb (j + 1)))
        → ((g : ℕ) → Stays (state_of p) (ho g) (ho' g)) → Watching p' pg' pb' ho'
    serves p' pg' pb' ho' s d' x' m z e ed es own others law =
        let t = served m in
        rebuild p' pg' pb' ho' x' e own others
        (subst⁻¹ (λ (d : Desk). Guards d (changed (mover_at p) k x')) ed (serve_guards (desk_of p ho) (mover_at p) k s i.guards d' x' m))
        (subst⁻¹ (λ (sl : ℕ → Slot). Buck sl ho' (changed (mover_at p) k x')) es
        (reset (slot_at p) ho' (mover_at p) (rehold (slot_at p) ho (mover_at p) i.buck (state_of p) ho' (spread p sound shaped a) law) k x' (omega arith)
        (λ g _ n. absurd (omega (arith, t.same (ho' g), z (ho' g))))))

    -- with nothing new of holds and posts
    pub serves_on : (p' : Pool) (s : ℕ → ℕ) (d' : Desk) (x' : Mover) → Serve (desk_of p ho) k x s d' x' → ((b : ℕ) → s b ≡ 0)
        → mover_at p' ≡ changed (mover_at p) k x' → desk_of p' ho ≡ d' → slot_at p' ≡ slot_at p → Recalls (pg (k + 1)) (pb (k + 1)) x'
        → Watching p' pg pb ho
    serves_on p' s d' x' m z e ed es own = serves p' pg pb ho s d' x' m z e ed es own same_others (λ g. inl refl)

    pub walks : (y : Worker) → Walk p.maxg (posted_at p (i_of p k)) (slot_at p (i_of p k)) x (seen y (set_at p k)) → Watching (with_worker k y p) pg pb ho
    walks y m =
        let after = walked m in
        rebuild (with_worker k y p) pg pb ho (seen y (set_at p k)) (worker_moved y) (λ l u. absurd (omega arith)) same_others
        (off_desk (desk_of p ho) (mover_at p) k (seen y (set_at p k)) i.guards (λ l u. omega arith))
        (walk_buck (desk_of p ho) (slot_at p) (state_of p) (mover_at p) i.guards (spread p sound shaped a) i.buck k (seen y (set_at p k)) m)

    -- another set, at a label where the worker is at no guard
    pub resets : (p' : Pool) (y : Worker) (s : IdSet) → mover_at p' ≡ changed (mover_at p) k (seen y s) → desk_of p' ho ≡ desk_of p ho → slot_at p' ≡ slot_at p
        → y.label < 15 → (4 ≤ y.label → y.label ≤ 10 → ⊥) → ((g : ℕ) → Ahead g (ho g) (seen y s)) → Watching p' pg pb ho
    resets p' y s e ed es l away ahead =
        rebuild p' pg pb ho (seen y s) e (λ a b. absurd (away (omega arith) b)) same_others
        (subst⁻¹ (λ (d : Desk). Guards d (changed (mover_at p) k (seen y s))) ed (off_desk (desk_of p ho) (mover_at p) k (seen y s) i.guards away))
        (subst⁻¹ (λ (sl : ℕ → Slot). Buck sl ho (changed (mover_at p) k (seen y s))) es (reset (slot_at p) ho (mover_at p) i.buck k (seen y s) l ahead))

    -- a store of id c to the worker's slot
    pub stores : (c : ℕ) (s : IdSet) → Store x c → i_of p k < 32 → x.h.id ≡ (slot_at p (i_of p k)).id → x.h.version ≡ (slot_at p (i_of p k)).version
        → ((b : ℕ) → 0 < b → b ≤ p.b → one (eqb c b) + one (member_of s b) ≡ one (eqb (slot_at p (i_of p k)).id b) + one (member_of (set_at p k) b))
        → Watching (with_worker k (to 31 (worker_at p k)) (with_set k s (refilled k c p))) pg pb ho
    stores c s m l hi hv law =
        let y : Worker = to 31 (worker_at p k) in
        rebuild (with_worker k y (with_set k s (refilled k c p))) pg pb ho (seen y s) (both_moved y s)
        (λ l u. absurd (omega arith)) same_others
        (off_desk (desk_of p ho) (mover_at p) k (seen y s) i.guards (λ l u. omega arith))
        (subst⁻¹ (λ (sl : ℕ → Slot). Buck sl ho (changed (mover_at p) k (seen y s))) refilled_slot
        (store_buck (desk_of p ho) (slot_at p) (state_of p) (mover_at p) i.guards (spread p sound shaped a) i.buck k c (λ b. one (member_of s b)) hi hv m p.b hold_low law))
      where
        refilled_slot : slot_at (refilled k c p) ≡ changed (slot_at p) (i_of p k) (record { id = c; version = (slot_at p (i_of p k)).version + 1 })
        refilled_slot =
            let version : ℕ = (slot_at p (i_of p k)).version + 1 in
            let ids-long = shaped.slot_ids in
            let versions-long = shaped.slot_versions in
            changed_ext (slot_at p) (slot_at (refilled k c p)) (i_of p k) (record { id = c; version = version })
            (ap₂ (λ (x y : ℕ). record { id = x; version = y }) (get_or-set_same p.slot_id (i_of p k) c 0 (omega arith)) (get_or-set_same p.slot_version (i_of p k) version 0 (omega arith)))
            (λ j n. ap₂ (λ (x y : ℕ). record { id = x; version = y }) (get_or-set_other p.slot_id (i_of p k) j c 0 n) (get_or-set_other p.slot_version (i_of p k) j version 0 n))

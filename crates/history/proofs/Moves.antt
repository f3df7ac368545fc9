-- The moves of a worker as they bear on holds, over functions of guards and workers: k is a worker's number less 1. Assumes nothing.
use mathlib.Core.Path.{◌≡◌}
use mathlib.Core.Logic.{◌≢◌}
use Prim.Native.Nat.{ℕ, ◌+◌, ◌≤◌, ◌<◌}
use Rattle.worker.specs.declared.Slot.{Slot}
use Rattle.worker.specs.Registers.{no_slot}
use Rattle.history.specs.Holds.{changed}

-- a worker, with 1 at each member of its set
pub record Mover : Type 0 where
  pub label : ℕ
  pub i : ℕ
  pub v : ℕ
  pub h : Slot
  pub attempts : ℕ
  pub max : ℕ
  pub member : ℕ → ℕ

abbrev pub mover : ℕ → ℕ → ℕ → Slot → ℕ → ℕ → (ℕ → ℕ) → Mover
mover l i v h a m s = record { label = l; i = i; v = v; h = h; attempts = a; max = m; member = s }

-- x at another label
abbrev pub at : Mover → ℕ → Mover
at x l = mover l x.i x.v x.h x.attempts x.max x.member

-- MAXG, and what belongs to the guards, but for the slots
pub record Desk : Type 0 where
  pub maxg : ℕ
  pub taken : ℕ → ℕ
  pub employer : ℕ → ℕ
  pub posted : ℕ → ℕ
  pub holds : ℕ → ℕ

abbrev pub desk : ℕ → (ℕ → ℕ) → (ℕ → ℕ) → (ℕ → ℕ) → (ℕ → ℕ) → Desk
desk m t e p h = record { maxg = m; taken = t; employer = e; posted = p; holds = h }

-- an end of a hire, a fire or a post, with the set s
abbrev pub still : (ℕ → ℕ) → Mover
still s = mover 0 0 0 no_slot 0 0 s

-- of a hire, a fire or a post of worker k; s is the set afterwards, c what a completed post holds
pub data Serve (d : Desk) (k : ℕ) (x : Mover) (s : ℕ → ℕ) : Desk → Mover → Type 0 where
  hire : x.label ≡ 0 → Serve d k x s d (mover 2 0 x.v x.h x.attempts x.max s)
  s2y : x.label ≡ 2 → d.taken x.i ≡ 0 → Serve d k x s (desk d.maxg (changed d.taken x.i 1) d.employer d.posted d.holds) (mover 4 x.i x.v x.h x.attempts x.max s)
  s2n : x.label ≡ 2 → Serve d k x s d (mover x.label (x.i + 1) x.v x.h x.attempts x.max s)
  s2e : x.label ≡ 2 → Serve d k x s d (still s)
  s4a : x.label ≡ 4 → d.maxg < x.i → Serve d k x s d (mover 5 x.i x.v x.h x.attempts d.maxg s)
  s4b : x.label ≡ 4 → x.i ≤ d.maxg → Serve d k x s d (mover 6 x.i x.v x.h x.attempts d.maxg s)
  s5y : x.label ≡ 5 → d.maxg ≡ x.max → Serve d k x s (desk x.i d.taken d.employer d.posted d.holds) (mover 4 x.i x.v x.h x.attempts x.max s)
  s5n : x.label ≡ 5 → Serve d k x s d (mover 4 x.i x.v x.h x.attempts x.max s)
  s6 : x.label ≡ 6 → Serve d k x s (desk d.maxg d.taken (changed d.employer x.i (k + 1)) d.posted d.holds) (still s)
  fire : (g : ℕ) → x.label ≡ 0 → d.employer g ≡ k + 1 → Serve d k x s (desk d.maxg d.taken (changed d.employer g 0) d.posted d.holds) (mover 7 g x.v x.h x.attempts x.max s)
  s7 : x.label ≡ 7 → Serve d k x s (desk d.maxg (changed d.taken x.i 0) d.employer d.posted d.holds) (mover 8 x.i x.v x.h x.attempts x.max s)
  s8 : x.label ≡ 8 → Serve d k x s d (still s)
  post : (g b : ℕ) → x.label ≡ 0 → d.employer g ≡ k + 1 → Serve d k x s (desk d.maxg d.taken d.employer d.posted (changed d.holds g 0)) (mover 9 g b x.h x.attempts x.max s)
  s9 : x.label ≡ 9 → Serve d k x s (desk d.maxg d.taken d.employer (changed d.posted x.i x.v) d.holds) (mover 10 x.i x.v x.h x.attempts x.max s)
  s10 : (c : ℕ) → x.label ≡ 10 → (0 < c → c ≡ x.v) → Serve d k x s (desk d.maxg d.taken d.employer d.posted (changed d.holds x.i c)) (still s)

-- of a give-up, that change nothing but the worker: m is MAXG, po the posted id and sl the slot at the worker's guard
pub data Walk (m po : ℕ) (sl : Slot) (x : Mover) : Mover → Type 0 where
  w12a : x.label ≡ 12 → Walk m po sl x (at x 13)
  w12b : x.label ≡ 12 → m < x.i → Walk m po sl x (at x 32)
  w13 : x.label ≡ 13 → Walk m po sl x (mover 15 x.i x.v sl 0 x.max x.member)
  w15a : x.label ≡ 15 → 0 < po → x.member po ≡ 1 → Walk m po sl x (mover 18 x.i po x.h x.attempts x.max x.member)
  w15b : x.label ≡ 15 → (0 < po → x.member po ≡ 0) → Walk m po sl x (mover 28 x.i po x.h x.attempts x.max x.member)
  w18n : x.label ≡ 18 → (x.h.id ≡ sl.id → x.h.version ≡ sl.version → ⊥) → Walk m po sl x (at x 22)
  w22a : x.label ≡ 22 → x.attempts ≡ 2 → Walk m po sl x (mover 31 x.i x.v x.h (x.attempts + 1) x.max x.member)
  w22b : x.label ≡ 22 → x.attempts ≢ 2 → Walk m po sl x (mover 25 x.i x.v sl (x.attempts + 1) x.max x.member)
  w25a : x.label ≡ 25 → x.attempts ≡ 2 → 0 < x.h.id → Walk m po sl x (at x 31)
  w25b : x.label ≡ 25 → x.v ≢ po → Walk m po sl x (at x 31)
  w25c : x.label ≡ 25 → x.v ≡ po → Walk m po sl x (at x 18)
  w28n : x.label ≡ 28 → Walk m po sl x (at x 31)
  w31 : x.label ≡ 31 → Walk m po sl x (mover 12 (x.i + 1) x.v x.h x.attempts x.max x.member)

-- a store to the worker's slot, of id c: at 18 or at 28
pub data Store (x : Mover) : ℕ → Type 0 where
  exchanges : x.label ≡ 18 → Store x x.v
  collects : x.label ≡ 28 → 0 < x.h.id → x.h.id ≢ x.v → Store x 0

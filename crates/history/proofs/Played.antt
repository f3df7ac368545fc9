-- A run that is not safe, by computing it. `after` and `seen` make a call anew for each thing that they ask of it; here it is made once. Assumes nothing.
use mathlib.Core.Path.{◌≡◌, refl, ap}
use mathlib.Core.Bool.{Bool, true}
use mathlib.Core.List.{List, [], ◌∷◌}
use Prim.Native.Nat.{ℕ, ◌≤◌}
use Rattle.basics.specs.Among.{among_first}
use Rattle.pool.specs.declared.Pool.{Pool}
use Rattle.pool.specs.Answers.{Said, Told, back}
use Rattle.rules.specs.Calls.{Call, advancing, call, list_of, after, seen}
use Rattle.history.specs.History.{History, tells, history_after}
use Rattle.history.specs.Safe.{Safe}
use Rattle.history.proofs.Computing.{hearing}

-- a record and its history
pub record Stand : Type 0 where
  pub pool : Pool
  pub history : History

-- after call c, which came to t. The lent list waits until something asks for it
unfoldable pub next : Call → Told → Stand → Stand
next c t s = let list = list_of c s.pool in record { pool = t.pool; history = tells (record { made = c; answer = t.answer; list = list }) s.history }

unfoldable pub played : List Call → Stand → Stand
played [] s = s
played (c ∷ calls) s = played calls (next c (call c s.pool) s)

played_is : (calls : List Call) (p : Pool) (h : History) → played calls (record { pool = p; history = h }) ≡ record { pool = after calls p; history = history_after h (seen calls p) }
unfolding next played after seen history_after
played_is [] p h = refl
played_is (c ∷ calls) p h = played_is calls (call c p).pool _

-- what one more advance answers, whether id is the first of the lent list afterwards, and what guard i holds at that moment
pub record Ending : Type 0 where
  pub answer : Said
  pub handed : Bool
  pub held : ℕ

unfoldable pub ending : ℕ → List ℕ → ℕ → ℕ → Stand → Ending
ending worker out i id s =
    record {
      answer = (call (advancing worker out) s.pool).answer;
      handed = among_first (list_of (advancing worker out) s.pool) 1 id;
      held = s.history.posts.holds i;
    }

-- to unfold `playing` is to unfold all that an ending computes by
unfoldable pub playing : Unit {0}
unfolding hearing next played ending
playing = tt

module _ (calls : List Call) (p : Pool) (h : History) (worker : ℕ) (out : List ℕ) (i id : ℕ) where
  -- the advance hands back id alone, and guard i holds it
  abbrev pub HandsBackHeld : Type 0
  HandsBackHeld = ending worker out i id (played calls (record { pool = p; history = h })) ≡ record { answer = back 1; handed = true; held = id }

  pub unsafe : 1 ≤ id → HandsBackHeld → Safe (after calls p) (history_after h (seen calls p)) → ⊥
  unfolding ending
  unsafe some broken safe =
      let e = rw played_is at broken in
      safe worker out 1 (ap (λ (x : Ending). x.answer) e) i id some (ap (λ (x : Ending). x.handed) e) (ap (λ (x : Ending). x.held) e)

-- The pool is safe: no advance hands back a buffer that a guard holds.
use Rattle.std.specs.Prelude.{ℕ, ◌≤◌, ◌≡◌, true, List}
use Rattle.basics.specs.Among.{among_first}
use Rattle.pool.specs.declared.Pool.{Pool}
use Rattle.pool.specs.Answers.{back}
use Rattle.rules.specs.Calls.{advancing, call, list_of}
use Rattle.history.specs.History.{History}

-- p with history h: of an advance that hands back n ids none is held by any guard i at that moment
abbrev pub Safe : Pool → History → Type 0
Safe p h =
    (worker : ℕ) (out : List ℕ) (n : ℕ) → (call (advancing worker out) p).answer ≡ back n
    → (i id : ℕ) → 1 ≤ id → among_first (list_of (advancing worker out) p) n id ≡ true → h.posts.holds i ≡ id → ⊥

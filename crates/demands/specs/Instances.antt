-- What the page says of single guards, buffers and numbers: nothing of it speaks of the first ones alone.
use Rattle.std.specs.Prelude.{ℕ, ◌+◌, ◌≡◌, true, List}
use Rattle.basics.specs.Among.{among_first}
use Rattle.pool.specs.declared.Pool.{Pool}
use Rattle.pool.specs.declared.Outcome.{Outcome}
use Rattle.pool.specs.Answers.{said, back}
use Rattle.rules.specs.Calls.{advancing, Seen}
use Rattle.history.specs.Counts.{in_slots, in_sets}
use Rattle.history.specs.History.{history_after, fresh}
use Rattle.history.specs.Runs.{times_placed}
use Rattle.demands.specs.Allowed.{Allows}
use Rattle.demands.specs.Runs.{FromMaking}

-- while guard i holds buffer id, no advance of worker v hands it back
abbrev KeepsBack : ℕ → ℕ → ℕ → Type 0
KeepsBack v i id =
    (w g b : ℕ) (es : List Seen) (q : Pool) → FromMaking w g b es q → (history_after fresh es).posts.holds i ≡ id
    → (out list : List ℕ) (r : Outcome) (n : ℕ) → Allows q r (advancing v out) list → said r.answer ≡ back n → among_first list n id ≡ true → ⊥

pub record Instances : Type 0 where
  pub first : KeepsBack 1 0 1
  pub another_guard : KeepsBack 1 1 3
  pub last : KeepsBack 8 31 256
  -- in a pool of three buffers
  pub places : (w g : ℕ) (es : List Seen) (q : Pool) → FromMaking w g 3 es q
      → (times_placed q (history_after fresh es) 1 ≡ 1) × (times_placed q (history_after fresh es) 2 ≡ 1) × (times_placed q (history_after fresh es) 3 ≡ 1)
  -- 5 given up and 2 handed back
  pub counts : (w g b : ℕ) (es : List Seen) (q : Pool) → FromMaking w g b es q → (history_after fresh es).given ≡ 5 → (history_after fresh es).back ≡ 2
      → in_slots q + in_sets q ≡ 3

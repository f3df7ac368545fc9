-- Calls one after the other on the engine, each with a result that its contract allows. Whoever holds the record may ask questions between them.
use Rattle.std.specs.Prelude.{◌≡◌, List, [], ◌∷◌, ℕ}
use Rattle.pool.specs.declared.Pool.{Pool}
use Rattle.pool.specs.declared.Answer.{Answer}
use Rattle.pool.specs.declared.Outcome.{Outcome}
use Rattle.pool.specs.Answers.{said, accepted}
use Rattle.rules.specs.Calls.{Call, after, Seen, seen}
use Rattle.demands.specs.Allowed.{Allows, Makes, Question, Answers}

-- what the caller saw of call c
abbrev pub saw : Call → Outcome → List ℕ → Seen
saw c r list = record { made = c; answer = said r.answer; list = list }

-- from the first record to the last, with what the caller saw of the calls
pub data Ran : Pool → List Seen → Pool → Type 0 where
  begins : (p : Pool) → Ran p [] p
  calls : {p q : Pool} {es : List Seen} (c : Call) (r : Outcome) (list : List ℕ) → Allows p r c list → Ran r.pool es q → Ran p (saw c r list ∷ es) q
  asks : {p q : Pool} {es : List Seen} (x : Question) (a : Answer) → Answers p a x → Ran p es q → Ran p es q

-- the same from the making of a pool of w workers, g guards and b buffers on
pub record FromMaking (w g b : ℕ) (es : List Seen) (q : Pool) : Type 0 where
  pub made : Outcome
  pub makes : Makes w g b made
  pub taken_on : said made.answer ≡ accepted
  pub ran : Ran made.pool es q

-- the calls of what was seen
unfoldable pub calls_in : List Seen → List Call
calls_in [] = []
calls_in (e ∷ es) = e.made ∷ calls_in es

-- what was seen, and the record that is left, are those of the calls played one after the other by the definitions
pub record IsRun (p : Pool) (es : List Seen) (q : Pool) : Type 0 where
  pub seen_so : es ≡ seen (calls_in es) p
  pub left_so : q ≡ after (calls_in es) p

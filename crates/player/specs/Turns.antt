-- What a line does, and what is printed of it.
use Rattle.std.specs.Prelude.{◌≡◌, ℕ, ◌≤◌, List, [], length, drop, replicate, ltb, Option, Some, None}
use Rattle.basics.specs.Pick.{when}
use Rattle.tables.specs.Write.{write_at}
use Rattle.pool.specs.declared.Pool.{Pool}
use Rattle.pool.specs.Answers.{Told}
use Rattle.pool.specs.Make.{make_of}
use Rattle.rules.specs.Calls.{Call, hiring, firing, posting, giving_up, taking, asking, advancing, call, list_of}
use Rattle.grammar.specs.declared.Line.{Line}
use Rattle.grammar.specs.declared.Line.TheVariants.{Make, Take, Hire, Fire, Post, Give, Ask, Step, Repeat, End}
use Rattle.grammar.specs.Line.{line_of, numbers_at}
use Rattle.printed.specs.Printed.{line_for}
use Rattle.player.specs.declared.Turn.{Turn}

-- making a pool, a call on the pool, or nothing
pub data Deed : Type 0 where
  makes : ℕ → ℕ → ℕ → Deed
  calls : Call → Deed
  nothing : Deed

-- by a line, if it is lawful, and its numbers: those of `give` are the worker and the ids; each step lends 256 ids
abbrev pub deed_of : Option Line → List ℕ → Deed
deed_of (Some (Make w g b)) ns = makes w g b
deed_of (Some (Take b)) ns = calls (taking b)
deed_of (Some (Hire w)) ns = calls (hiring w)
deed_of (Some (Fire w g)) ns = calls (firing w g)
deed_of (Some (Post w g b)) ns = calls (posting w g b)
deed_of (Some (Give w)) ns = calls (giving_up w (drop 1 ns))
deed_of (Some (Ask w b)) ns = calls (asking w b)
deed_of (Some (Step w)) ns = calls (advancing w (replicate 256 0))
deed_of (Some (Repeat n)) ns = nothing
deed_of (Some End) ns = nothing
deed_of None ns = nothing

unfoldable pub deed_at : List ℕ → ℕ → Deed
deed_at s at = deed_of (line_of s at) (numbers_at s at)

-- the record after a line, and the bytes that it prints
pub record Played : Type 0 where
  pub pool : Pool
  pub bytes : List ℕ

abbrev pub says : ℕ → Told → List ℕ → Played
says k t list = record { pool = t.pool; bytes = line_for k t.answer list }

-- as call number k, on record p
abbrev pub turn_of : Deed → ℕ → Pool → Played
turn_of (makes w g b) k p = says k (make_of w g b) []
turn_of (calls c) k p = says k (call c p) (list_of c p)
turn_of nothing k p = record { pool = p; bytes = [] }

-- the line at a place; outside the text, or of a text that is too long, nothing is played
unfoldable pub turn_at : List ℕ → ℕ → ℕ → Pool → Played
turn_at s at k p =
    when (ltb 16384 (length s)) (turn_of nothing k p)
    (when (ltb (length s) at) (turn_of nothing k p) (turn_of (deed_at s at) k p))

-- ---- in the code

abbrev pub turned : Played → Turn
turned t = record { pool = t.pool; written = length t.bytes }

-- r is what was played, its bytes stand at the start of u, which was t, and they are no more than a line's
pub record Shows (x : Played) (r : Turn) (t u : List ℕ) : Type 0 where
  pub value : r ≡ turned x
  pub out_after : u ≡ write_at t 0 x.bytes
  pub written_bound : r.written ≤ 8192

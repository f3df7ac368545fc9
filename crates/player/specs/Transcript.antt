-- What the program prints for any bytes whatever.
use Rattle.std.specs.Prelude.{ℕ, ◌+◌, List, [], ◌∷◌, ◌++◌, Result, Ok, Err}
use Rattle.tables.specs.Bytes.{bytes}
use Rattle.pool.specs.declared.Pool.{Pool}
use Rattle.pool.specs.Record.{blank}
use Rattle.rules.specs.Calls.{Call, Seen, seen}
use Rattle.printed.specs.Printed.{decimal, line_for}
use Rattle.schedule.specs.Read.{Reading, too_long, bad_line, calls, read_of}
use Rattle.schedule.specs.declared.Unread.{Unread}
use Rattle.schedule.specs.declared.Unread.TheVariants.{TooLong, BadLine}
use Rattle.player.specs.Turns.{Deed, makes, calls as calling, nothing, deed_at, Played, turn_of, turn_at}

-- the calls of the lines at some places; the making is none of them
abbrev pub call_in : Deed → List Call
call_in (makes w g b) = []
call_in (calling c) = c ∷ []
call_in nothing = []

unfoldable pub unrolled : List ℕ → List ℕ → List Call
unrolled s [] = []
unrolled s (at ∷ places) = call_in (deed_at s at) ++ unrolled s places

-- a line for each answer, numbered from k on
unfoldable pub printed_from : ℕ → List Seen → List ℕ
printed_from k [] = []
printed_from k (e ∷ es) = line_for k e.answer e.list ++ printed_from (k + 1) es

-- line 1 makes the pool; what it hands back, if only the all-zero record, is played on
abbrev pub played_from : List Call → Deed → List ℕ
played_from cs d = (turn_of d 1 (blank 0 0 0)).bytes ++ printed_from 2 (seen cs (turn_of d 1 (blank 0 0 0)).pool)

-- what is printed of a text that is not played
abbrev pub too_long_bytes : List ℕ
too_long_bytes = bytes "too long\n"

abbrev pub bad_line_bytes : ℕ → List ℕ
bad_line_bytes l = bytes "bad line " ++ (decimal l ++ bytes "\n")

abbrev pub says_of : List ℕ → Reading → List ℕ
says_of s too_long = too_long_bytes
says_of s (bad_line l) = bad_line_bytes l
says_of s (calls places) = played_from (unrolled s places) (deed_at s 0)

unfoldable pub transcript : List ℕ → List ℕ
transcript s = says_of s (read_of s)

-- ---- the lines at some places played one after the other, the first of them as call number k

unfoldable pub turns_from : List ℕ → ℕ → List ℕ → Pool → Played
turns_from s k [] p = record { pool = p; bytes = [] }
turns_from s k (at ∷ places) p =
    record {
      pool = (turns_from s (k + 1) places (turn_at s at k p).pool).pool;
      bytes = (turn_at s at k p).bytes ++ (turns_from s (k + 1) places (turn_at s at k p).pool).bytes;
    }

-- ---- in the code

abbrev pub judgement : Result ℕ Unread → List ℕ
judgement (Ok n) = []
judgement (Err TooLong) = too_long_bytes
judgement (Err (BadLine l)) = bad_line_bytes l

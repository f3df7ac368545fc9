-- What a text is read as: too long, its lowest line at fault, or its calls, unrolled.
use Rattle.std.specs.Prelude.{ℕ, ◌+◌, ◌≤◌, ◌<◌, ◌≡◌, List, [], ◌∷◌, Bool, true, false, length, take, eqb, ltb, count_by, Option, Some, None, Result, Ok, Err}
use Rattle.std.specs.Bool.{then_some}
use Rattle.basics.specs.Pick.{when}
use Rattle.grammar.specs.Line.{after_of, kind_of}
use Rattle.grammar.specs.declared.Kind.{Kind}
use Rattle.grammar.specs.declared.Kind.TheVariants.{Make, Call, Repeat, End}
use Rattle.tables.specs.Write.{write_at}
use Rattle.schedule.specs.Text.{Block, lower, block_at}
use Rattle.schedule.specs.declared.Unread.{Unread}
use Rattle.schedule.specs.declared.Unread.TheVariants.{TooLong, BadLine}

-- each call is named by the place of its line
pub data Reading : Type 0 where
  too_long : Reading
  bad_line : ℕ → Reading
  calls : List ℕ → Reading

abbrev pub is_make : Option Kind → Bool
is_make None = false
is_make (Some Make) = true
is_make (Some Call) = false
is_make (Some (Repeat n)) = false
is_make (Some End) = false

-- the number of the line at place p
unfoldable pub line_number : List ℕ → ℕ → ℕ
line_number s p = count_by (λ b. eqb b 10) (take p s) + 1

abbrev pub limited : List ℕ → Reading
limited l = when (ltb 100000 (length l)) too_long (calls l)

abbrev pub judged_by : Option ℕ → List ℕ → List ℕ → Reading
judged_by (Some at) s l = bad_line (line_number s at)
judged_by None s l = limited l

-- where the lines after the first stop before the text's end, there is an `end` too many
abbrev pub stray_end : List ℕ → Block → Option ℕ
stray_end s b = then_some (ltb b.next (length s)) b.next

-- a text whose line 1 is a making, given the lines after it
abbrev pub judged : List ℕ → Block → Reading
judged s b = judged_by (lower b.fault (stray_end s b)) s (0 ∷ b.calls)

unfoldable pub read_of : List ℕ → Reading
read_of s =
    when (ltb 16384 (length s)) too_long
    (when (is_make (kind_of s 0)) (judged s (block_at s (after_of s 0) 4)) (bad_line 1))

-- ---- what is known of a text that is read as calls: it is short, its line 1 makes the pool, every other place is of a call's line in the text, and the
-- calls are no more than 100,000

unfoldable pub CallsAt : List ℕ → List ℕ → Type 0
CallsAt s [] = Unit
CallsAt s (at ∷ places) = (at ≤ length s) × (kind_of s at ≡ Some Call) × CallsAt s places

pub record Faultless (s : List ℕ) (places : List ℕ) : Type 0 where
  pub short : length s ≤ 16384
  pub making : kind_of s 0 ≡ Some Make
  pub rest : List ℕ
  pub first : places ≡ 0 ∷ rest
  pub others : CallsAt s rest
  pub few : length places ≤ 100000

-- ---- in the code

-- what the code answers, and what it leaves in the table: the calls' places, or what was there
abbrev pub answered : Reading → Result ℕ Unread
answered too_long = Err TooLong
answered (bad_line n) = Err (BadLine n)
answered (calls l) = Ok (length l)

abbrev pub filled : Reading → List ℕ → List ℕ
filled too_long t = t
filled (bad_line n) t = t
filled (calls l) t = write_at t 0 l

-- what the code knows of a text that is read as calls, whose line 2 starts at n
pub record Playable (s : List ℕ) (n : ℕ) : Type 0 where
  pub short : length s ≤ 16384
  pub start : n ≡ after_of s 0
  pub sound : (block_at s n 4).fault ≡ None
  pub few : length (block_at s n 4).calls < 100000
  pub read : read_of s ≡ calls (0 ∷ (block_at s n 4).calls)

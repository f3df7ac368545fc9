-- What a text of nested blocks is read as: where a block ends, the lowest of its lines at fault, and its calls, unrolled.
-- A line is named by the place of its first byte.
use Rattle.std.specs.Prelude.{ℕ, zero, suc, ◌+◌, ◌-◌, ◌≤◌, ◌≡◌, List, [], ◌∷◌, ◌++◌, Bool, true, false, not, ◌&&◌, length, min, eqb, leb, ltb, Option, Some, None}
use Rattle.std.specs.List.{repeat}
use Rattle.basics.specs.Pick.{when}
use Rattle.grammar.specs.Line.{after_of, kind_of}
use Rattle.grammar.specs.declared.Kind.{Kind}
use Rattle.grammar.specs.declared.Kind.TheVariants.{Make, Call, Repeat, End}
use Rattle.schedule.specs.declared.Got.{Got}
use Rattle.schedule.specs.declared.Put.{Put}

-- what lines are read as: where the next one starts, the lowest at fault, if one is, and the calls in order
pub record Block : Type 0 where
  pub next : ℕ
  pub fault : Option ℕ
  pub calls : List ℕ

-- the lower of two lines at fault, where there are such
abbrev pub lower : Option ℕ → Option ℕ → Option ℕ
lower None g = g
lower (Some f) None = Some f
lower (Some f) (Some g) = Some (min f g)

-- lines, and then the lines from where they end
abbrev pub and_then : Block → (ℕ → Block) → Block
and_then a f = record { next = (f a.next).next; fault = lower a.fault (f a.next).fault; calls = a.calls ++ (f a.next).calls }

abbrev pub is_end : Option Kind → Bool
is_end None = false
is_end (Some Make) = false
is_end (Some Call) = false
is_end (Some (Repeat n)) = false
is_end (Some End) = true

-- the open blocks after a line, of m before it
abbrev pub open_after : Option Kind → ℕ → ℕ
open_after None m = m
open_after (Some Make) m = m
open_after (Some Call) m = m
open_after (Some (Repeat n)) m = m + 1
open_after (Some End) m = m - 1

-- the `end` of a block whose lines go on at i, with m blocks open in it; the text's length where it has none. k bytes are left
unfoldable pub end_from : ℕ → List ℕ → ℕ → ℕ → ℕ
end_from zero s i m = i
end_from (suc k) s i m =
    when (leb (length s) i) i
    (when (is_end (kind_of s i) && eqb m 0) i (end_from k s (after_of s i) (open_after (kind_of s i) m)))

unfoldable pub end_of : List ℕ → ℕ → ℕ → ℕ
end_of s i m = end_from (length s - i) s i m

-- a line that is no more than itself
abbrev pub single : List ℕ → ℕ → Option ℕ → List ℕ → Block
single s at fault calls = record { next = after_of s at; fault = fault; calls = calls }

-- a block opened at `at` for n times, given its lines; at fault where it is left open
abbrev pub closed : List ℕ → ℕ → ℕ → Block → Block
closed s at n b =
    when (ltb b.next (length s))
    (record { next = after_of s b.next; fault = b.fault; calls = repeat n b.calls })
    (record { next = b.next; fault = Some at; calls = [] })

-- a block opened too deep is at fault, and is passed over
abbrev pub too_deep : List ℕ → ℕ → Block
too_deep s at = single s (end_of s (after_of s at) 0) (Some at) []

-- a line, given the block after it
abbrev pub line_with : Option Kind → Block → List ℕ → ℕ → ℕ → Block
line_with (Some Call) b s at depth = single s at None (at ∷ [])
line_with (Some (Repeat n)) b s at depth = when (eqb depth 0) (too_deep s at) (closed s at n b)
line_with (Some Make) b s at depth = single s at (Some at) []
line_with (Some End) b s at depth = single s at (Some at) []
line_with None b s at depth = single s at (Some at) []

-- a block whose lines go on at `at` has a line there
abbrev pub has_line : List ℕ → ℕ → Bool
has_line s at = ltb at (length s) && not (is_end (kind_of s at))

-- the block whose lines go on at `at`: up to an `end` or the text's end. k bytes are left, and `depth` blocks may be opened in each other
unfoldable pub block_of : ℕ → List ℕ → ℕ → ℕ → Block
block_of zero s at depth = record { next = at; fault = None; calls = [] }
block_of (suc k) s at depth =
    when (leb (length s) at) (record { next = at; fault = None; calls = [] })
    (when (is_end (kind_of s at)) (record { next = at; fault = None; calls = [] })
    (and_then (line_with (kind_of s at) (block_of k s (after_of s at) (depth - 1)) s at depth) (λ i. block_of k s i depth)))

unfoldable pub block_at : List ℕ → ℕ → ℕ → Block
block_at s at depth = block_of (length s - at) s at depth

unfoldable pub line_at : List ℕ → ℕ → ℕ → Block
line_at s at depth = line_with (kind_of s at) (block_at s (after_of s at) (depth - 1)) s at depth

-- what the code answers of lines: its count of calls stops at 100,001
abbrev pub tell : Block → Got
tell b = record { next = b.next; fault = b.fault; calls = min (length b.calls) 100001 }

-- the second pass: lines at no fault, with room for their calls
pub record Ready (s : List ℕ) (b : Block) (t : List ℕ) : Type 0 where
  pub short : length s ≤ 16384
  pub sound : b.fault ≡ None
  pub room : length b.calls ≤ length t

-- where it ends in the text, and how many calls it writes
abbrev pub put : Block → Put
put b = record { next = b.next; written = length b.calls }

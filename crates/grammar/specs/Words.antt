-- The words of a line, and the numbers among them. A text is its bytes.
use Rattle.std.specs.Prelude.{ℕ, ◌+◌, ◌-◌, ◌*◌, List, [], ◌∷◌, Bool, true, false, not, ◌&&◌, length, eqb, leb, Option, Some, None, is_some, Result, Ok, Err}
use Rattle.std.specs.List.{slice_split, list_all}
use Rattle.basics.specs.Pick.{when}

-- ---- words: a line is parted at each space, so one space too many leaves an empty word

unfoldable pub words : List ℕ → List (List ℕ)
words l = slice_split (λ b. eqb b 32) l

-- ---- numbers: decimal, at most 4,294,967,295, without leading zeros

abbrev pub is_digit : ℕ → Bool
is_digit b = leb 48 b && leb b 57

unfoldable pub digits : List ℕ → Bool
digits [] = true
digits (b ∷ l) = is_digit b && digits l

-- the number that digits after v make
unfoldable pub value : ℕ → List ℕ → ℕ
value v [] = v
value v (b ∷ l) = value (v * 10 + (b - 48)) l

-- not empty, and no leading zero
unfoldable pub unpadded : List ℕ → Bool
unpadded [] = false
unpadded (b ∷ []) = true
unpadded (b ∷ c ∷ l) = not (eqb b 48)

unfoldable pub number_of : List ℕ → Option ℕ
number_of w = when (unpadded w && (digits w && leb (value 0 w) 4294967295)) (Some (value 0 w)) None

-- the numbers before the first word that is none
abbrev pub before : Option ℕ → List ℕ → List ℕ
before (Some v) l = v ∷ l
before None l = []

unfoldable pub numbers_of : List (List ℕ) → List ℕ
numbers_of [] = []
numbers_of (w ∷ ws) = before (number_of w) (numbers_of ws)

-- every word is a number
unfoldable pub all_numbers : List (List ℕ) → Bool
all_numbers ws = list_all (λ w. is_some (number_of w)) ws

-- ---- in the code

-- how many numbers there are before the first word that is none, and whether there is such a word
abbrev pub tally : List (List ℕ) → Result ℕ ℕ
tally ws = when (all_numbers ws) (Ok (length (numbers_of ws))) (Err (length (numbers_of ws)))

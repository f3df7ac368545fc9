-- What a call prints: its number, its answer in words, a newline.
use Rattle.std.specs.Prelude.{ℕ, zero, suc, ◌+◌, ◌/◌, ◌%◌, List, [], ◌∷◌, ◌++◌, take, ltb}
use Rattle.std.specs.List.{flat_map}
use Rattle.basics.specs.Pick.{when}
use Rattle.tables.specs.Bytes.{bytes}
use Rattle.pool.specs.Answers.{Said, accepted, yes, no, none_found, fired, posted, clear, label, guard, back, count, fault, refused}

-- a number in decimal without leading zeros, in k digits at most
-- Kept: the library's `decimal` has up to 64 digits, so no line had a bound that does not ask for one on each number in it (`line_fits`).
unfoldable pub decimal_in : ℕ → ℕ → List ℕ
decimal_in zero n = []
decimal_in (suc k) n = when (ltb n 10) ((48 + n) ∷ []) (decimal_in k (n / 10) ++ ((48 + n % 10) ∷ []))

-- every number below 2^64 has 20 digits at most
unfoldable pub decimal : ℕ → List ℕ
decimal n = decimal_in 20 n

-- a space and a number
unfoldable pub spaced : ℕ → List ℕ
spaced n = 32 ∷ decimal n

-- an answer, with the list that the call was lent; the last three are no call's, only a question's
unfoldable pub in_words : Said → List ℕ → List ℕ
in_words accepted list = bytes " ok"
in_words (label l) list = bytes " at" ++ spaced l
in_words (guard g) list = bytes " guard" ++ spaced g
in_words none_found list = bytes " none"
in_words fired list = bytes " fired"
in_words posted list = bytes " posted"
in_words (back n) list = bytes " back" ++ flat_map spaced (take n list)
in_words yes list = bytes " yes"
in_words no list = bytes " no"
in_words (refused n place) list = bytes " refused" ++ (spaced n ++ spaced place)
in_words (count n) list = bytes " count" ++ spaced n
in_words clear list = bytes " clear"
in_words (fault b n) list = bytes " fault" ++ (spaced b ++ spaced n)

unfoldable pub line_for : ℕ → Said → List ℕ → List ℕ
line_for number a list = decimal number ++ (in_words a list ++ (10 ∷ []))

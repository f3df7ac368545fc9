-- The lines of a text: where each ends, and what it says.
use Rattle.std.specs.Prelude.{ℕ, ◌+◌, ◌&&◌, List, [], ◌∷◌, length, get_or, drop, eqb, leb, ltb, codes, if◌then◌else◌, Option, Some, None, option_map}
use Rattle.std.specs.List.{slice_range, position_or_len}
use Rattle.std.specs.Str.{bytes_eq}
use Rattle.basics.specs.Pick.{when}
use Rattle.grammar.specs.declared.Line.{Line}
use Rattle.grammar.specs.declared.Line.TheVariants.{Make, Take, Hire, Fire, Post, Give, Ask, Step, Repeat, End}
use Rattle.grammar.specs.declared.Kind.{Kind}
use Rattle.grammar.specs.declared.Kind.TheVariants as are
use Rattle.grammar.specs.Words.{words, numbers_of, all_numbers}

-- ---- where a line ends

-- the place of the first newline from `at` on, or the text's length
unfoldable pub stop_of : List ℕ → ℕ → ℕ
stop_of s at = at + position_or_len (λ b. eqb b 10) (drop at s)

-- where the line after the one at `at` starts
unfoldable pub after_of : List ℕ → ℕ → ℕ
after_of s at = when (ltb (stop_of s at) (length s)) (stop_of s at + 1) (stop_of s at)

-- ---- what a line says

-- a line that takes n numbers
abbrev pub with_numbers : ℕ → List ℕ → Line → Option Line
with_numbers n ns l = if eqb (length ns) n then Some l else None

-- by its first word and the numbers after it
abbrev pub line_by : List ℕ → List ℕ → Option Line
line_by w ns =
    if bytes_eq w (codes "make") then with_numbers 3 ns (Make (get_or ns 0 0) (get_or ns 1 0) (get_or ns 2 0))
    else (if bytes_eq w (codes "take") then with_numbers 1 ns (Take (get_or ns 0 0))
    else (if bytes_eq w (codes "hire") then with_numbers 1 ns (Hire (get_or ns 0 0))
    else (if bytes_eq w (codes "fire") then with_numbers 2 ns (Fire (get_or ns 0 0) (get_or ns 1 0))
    else (if bytes_eq w (codes "post") then with_numbers 3 ns (Post (get_or ns 0 0) (get_or ns 1 0) (get_or ns 2 0))
    else (if bytes_eq w (codes "give") then (if leb 1 (length ns) then Some (Give (get_or ns 0 0)) else None)
    else (if bytes_eq w (codes "ask") then with_numbers 2 ns (Ask (get_or ns 0 0) (get_or ns 1 0))
    else (if bytes_eq w (codes "step") then with_numbers 1 ns (Step (get_or ns 0 0))
    else (if bytes_eq w (codes "repeat") then (if leb 1 (get_or ns 0 0) && leb (get_or ns 0 0) 1000 then with_numbers 1 ns (Repeat (get_or ns 0 0)) else None)
    else (if bytes_eq w (codes "end") then with_numbers 0 ns End
    else None)))))))))

abbrev pub line_of_words : List (List ℕ) → Option Line
line_of_words [] = None
line_of_words (w ∷ ws) = when (all_numbers ws) (line_by w (numbers_of ws)) None

-- the line at `at` without its newline; one that has none is not lawful
abbrev pub words_at : List ℕ → ℕ → List (List ℕ)
words_at s at = words (slice_range s at (stop_of s at))

unfoldable pub line_of : List ℕ → ℕ → Option Line
line_of s at = when (leb (length s) (stop_of s at)) None (line_of_words (words_at s at))

-- the numbers of the line at `at`
unfoldable pub numbers_at : List ℕ → ℕ → List ℕ
numbers_at s at = numbers_of (drop 1 (words_at s at))

-- ---- what a line is to whoever reads blocks

abbrev pub kind : Line → Kind
kind (Make w g b) = are.Make
kind (Take b) = are.Call
kind (Hire w) = are.Call
kind (Fire w g) = are.Call
kind (Post w g b) = are.Call
kind (Give w) = are.Call
kind (Ask w b) = are.Call
kind (Step w) = are.Call
kind (Repeat n) = are.Repeat n
kind End = are.End

unfoldable pub kind_of : List ℕ → ℕ → Option Kind
kind_of s at = option_map kind (line_of s at)

-- Whether a number is among the entries of a list.
use Rattle.std.specs.Prelude.{ℕ, Bool, List, eqb, length, get_or}
use Rattle.basics.specs.Below.{any_below}

-- among the first n
abbrev pub among_first : List ℕ → ℕ → ℕ → Bool
among_first l n x = any_below n (λ j. eqb (get_or l j 0) x)

abbrev pub among : List ℕ → ℕ → Bool
among l x = among_first l (length l) x

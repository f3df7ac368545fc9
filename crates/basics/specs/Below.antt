-- A test asked of each number 0, 1, .., n - 1: whether all pass, whether any does, how many do. And the list of a function's values there.
use Rattle.std.specs.Prelude.{ℕ, zero, suc, ◌+◌, Bool, true, false, ◌&&◌, ◌||◌, List, [], ◌∷◌, ◌++◌}

unfoldable pub all_below : ℕ → (ℕ → Bool) → Bool
all_below zero f = true
all_below (suc n) f = all_below n f && f n

unfoldable pub any_below : ℕ → (ℕ → Bool) → Bool
any_below zero f = false
any_below (suc n) f = any_below n f || f n

-- 1 where the test holds, else 0
abbrev pub one : Bool → ℕ
one true = 1
one false = 0

unfoldable pub count_below : ℕ → (ℕ → Bool) → ℕ
count_below zero f = 0
count_below (suc n) f = count_below n f + one (f n)

module _ {A : Type 0} where
  -- f 0, f 1, .., f (n - 1)
  unfoldable pub table : ℕ → (ℕ → A) → List A
  table zero f = []
  table (suc n) f = table n f ++ (f n ∷ [])

-- What a search for the lowest entry that breaks a rule answers. A reader of the calls needs only `sound_check`.
use Rattle.std.specs.Prelude.{ℕ, ◌+◌, ◌<◌, ◌≡◌, Bool}
use Rattle.pool.specs.Answers.{Check, first_below}
use Rattle.pool.specs.Sound.{keeps}

-- of n entries, whatever test it is by which the code asks one, and whatever their places are called
abbrev pub Lowest : (ℕ → Bool → Type 0) → ℕ → ℕ → ℕ → Check → Type 0
Lowest asked n rule first c =
    (place : ℕ → ℕ) → ((k : ℕ) → place k ≡ first + k) → (test : ℕ → Bool) → ((k : ℕ) (b : Bool) → k < n → asked k b → b ≡ test k)
    → c ≡ first_below n (λ k. keeps rule (place k) (test k))

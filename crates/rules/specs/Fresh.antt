-- Making a pool: what is made is the paper's fresh pool, and sound. Out of range no pool is made, and the record handed back is all zero.
use Rattle.std.specs.Prelude.{◌≡◌, true, false, ℕ}
use Rattle.pool.specs.Answers.{accepted, refused}
use Rattle.pool.specs.Sound.{in_range, sound_of}
use Rattle.pool.specs.Make.{make_of, Fresh}

pub record Made (w g b : ℕ) : Type 0 where
  pub answer : (make_of w g b).answer ≡ accepted
  pub fresh : Fresh w g b (make_of w g b).pool
  pub sound : sound_of (make_of w g b).pool ≡ true

pub record NotMade (w g b : ℕ) : Type 0 where
  pub answer : (make_of w g b).answer ≡ refused 1 0
  pub all_zero : Fresh 0 0 0 (make_of w g b).pool
  pub unsound : sound_of (make_of w g b).pool ≡ false

pub record MadeFresh : Type 0 where
  pub made_in_range : (w g b : ℕ) → in_range w g b ≡ true → Made w g b
  pub out_of_range : (w g b : ℕ) → in_range w g b ≡ false → NotMade w g b

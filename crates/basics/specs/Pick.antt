-- Choice by a test. The two words stay shut: proofs go by their laws (proofs/Picks.antt).
use Rattle.std.specs.Prelude.{Bool, true, false}

module _ {ℓ} {A : Type ℓ} where
  -- a where the test holds, else b
  unfoldable pub when : Bool → A → A → A
  when true a b = a
  when false a b = b

  -- a where the test fails, else b
  unfoldable pub unless : Bool → A → A → A
  unless true a b = b
  unless false a b = a

-- The laws of `when` and `unless`, and the set by which `search` answers what a branch returns: the tests on the way are
-- known where the branch stands, so no path to them is written. Assumes nothing.
use mathlib.Core.Path.{◌≡◌, refl, sym, ◌∙◌}
use Prim.Native.Nat.{ℕ, ◌<◌, ◌≤◌}
use mathlib.Core.Bool.{Bool, true, false, not}
use lib.Dec.{eqb, ltb}
use borrow.Author.Tests.{lt-ltb, le-ltb, le-leb, lt-leb, eq-eqb, ne_eqb, not-true, not-false}
use Rattle.basics.specs.Pick.{when, unless}

module _ {ℓ} {A : Type ℓ} where
  pub when_yes : (t : Bool) (x a b : A) → t ≡ true → x ≡ a → x ≡ when t a b
  unfolding when
  when_yes t x a b h e = rw h e

  pub when_no : (t : Bool) (x a b : A) → t ≡ false → x ≡ b → x ≡ when t a b
  unfolding when
  when_no t x a b h e = rw h e

  pub unless_yes : (t : Bool) (x a b : A) → t ≡ true → x ≡ b → x ≡ unless t a b
  unfolding unless
  unless_yes t x a b h e = rw h e

  pub unless_no : (t : Bool) (x a b : A) → t ≡ false → x ≡ a → x ≡ unless t a b
  unfolding unless
  unless_no t x a b h e = rw h e

  -- what holds of each arm where its test leads there holds of the choice
  pub when_both : (P : A → Type 0) (t : Bool) (a b : A) → (t ≡ true → P a) → (t ≡ false → P b) → P (when t a b)
  unfolding when
  when_both P true a b f g = f refl
  when_both P false a b f g = g refl

  pub unless_both : (P : A → Type 0) (t : Bool) (a b : A) → (t ≡ false → P a) → (t ≡ true → P b) → P (unless t a b)
  unfolding unless
  unless_both P true a b f g = g refl
  unless_both P false a b f g = f refl

  -- what a choice that came out as x tells of its test, where the other arm is not x
  pub when_back : (t : Bool) (x a b : A) → (a ≡ x → ⊥) → when t a b ≡ x → (t ≡ false) × (b ≡ x)
  unfolding when
  when_back false x a b n h = (refl, h)
  when_back true x a b n h = absurd (n h)

  pub unless_back : (t : Bool) (x a b : A) → (a ≡ x → ⊥) → unless t a b ≡ x → (t ≡ true) × (b ≡ x)
  unfolding unless
  unless_back true x a b n h = (refl, h)
  unless_back false x a b n h = absurd (n h)

-- a call's answer r is the test s by what the call ensures, and a branch told r
pub told : (r s t : Bool) → r ≡ s → r ≡ t → s ≡ t
told r s t p q = sym p ∙ q

pub told_not : (r s : Bool) → r ≡ s → not r ≡ true → s ≡ false
told_not r s p q = sym p ∙ not-true r q

pub told_not_not : (r s : Bool) → r ≡ s → not r ≡ false → s ≡ true
told_not_not r s p q = sym p ∙ not-false r q

-- the same of a number that a call answers
pub told_zero : (n m : ℕ) → n ≡ m → n ≡ 0 → eqb m 0 ≡ true
told_zero n m p q = eq-eqb m 0 (sym p ∙ q)

pub told_some : (n m : ℕ) → n ≡ m → (n ≡ 0 → ⊥) → eqb m 0 ≡ false
told_some n m p q = ne_eqb m 0 (λ e. q (p ∙ e))

pub told_lt : (a n m : ℕ) → n ≡ m → a < n → ltb a m ≡ true
told_lt a n m e h = rw (← e) (lt-ltb a n h)

pub told_ge : (a n m : ℕ) → n ≡ m → n ≤ a → ltb a m ≡ false
told_ge a n m e h = rw (← e) (le-ltb a n h)

pub ruleset picks = (when_yes, when_no, unless_yes, unless_no, lt-ltb, le-ltb, le-leb, lt-leb, eq-eqb, ne_eqb, told, told_not, told_not_not, told_zero, told_some, told_lt, told_ge)

-- Functions changed at one number. Assumes nothing.
use mathlib.Core.Path.{◌≡◌, refl, ap, ◌∙◌, fun_ext}
use mathlib.Core.Logic.{◌≢◌}
use mathlib.Core.List.{List}
use Prim.Native.Nat.{ℕ, ◌<◌}
use lib.Dec.{eqb}
use lib.ListN.{length, get_or, set}
use lib.Seq.{get_or-set_same, get_or-set_other}
use native.Mathlib.Decide.{ℕ_discrete}
use native.Mathlib.Omega.{arith}
use borrow.Author.Tests.{eqb-true, eqb-false}
use Rattle.basics.proofs.Picks.{when_both}
use Rattle.history.specs.Holds.{changed}

pub by_eq : {C : Type 0} (a b : ℕ) → (a ≡ b → C) → (a ≢ b → C) → C
by_eq a b f g = elim (ℕ_discrete a b) [ yes e ↦ f e | no n ↦ g n ]

pub not_pos : (n : ℕ) → (0 < n → ⊥) → n ≡ 0
not_pos n h = by_eq n 0 (λ e. e) (λ d. absurd (h (omega arith)))

module _ {A : Type 0} where
  -- what holds of f, but x at k, at j: by cases on j
  pub changed_case : (P : A → Type 0) (f : ℕ → A) (k : ℕ) (x : A) (j : ℕ) → (j ≡ k → P x) → (j ≢ k → P (f j)) → P (changed f k x j)
  unfolding changed
  changed_case P f k x j own other = when_both P (eqb j k) x (f j) (λ e. own (eqb-true j k e)) (λ e. other (eqb-false j k e))

  pub changed_same : (f : ℕ → A) (k : ℕ) (x : A) → changed f k x k ≡ x
  changed_same f k x = changed_case (λ y. y ≡ x) f k x k (λ e. refl) (λ n. absurd (n refl))

  pub changed_ext : (f g : ℕ → A) (k : ℕ) (x : A) → g k ≡ x → ((j : ℕ) → j ≢ k → g j ≡ f j) → g ≡ changed f k x
  changed_ext f g k x e d = fun_ext (λ j. changed_case (λ y. g j ≡ y) f k x j (λ q. ap g q ∙ e) (d j))

  -- a list of which one entry is replaced, read by a function
  pub set_changed : {B : Type 0} (φ : B → A) (l : List B) (d : B) (k : ℕ) (x : B) → k < length l
      → (λ (j : ℕ). φ (get_or (set l k x) j d)) ≡ changed (λ (j : ℕ). φ (get_or l j d)) k (φ x)
  set_changed φ l d k x h =
      changed_ext (λ j. φ (get_or l j d)) (λ j. φ (get_or (set l k x) j d)) k (φ x) (ap φ (get_or-set_same l k x d h)) (λ j n. ap φ (get_or-set_other l k j x d n))

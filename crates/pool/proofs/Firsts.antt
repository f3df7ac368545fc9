-- The laws of `first` and `first_below`: of each check, of a loop that asks entry by entry, and of a rule's tests. Assumes nothing.
use mathlib.Core.Path.{◌≡◌, refl, sym, ap, ◌∙◌}
use mathlib.Core.Bool.{Bool, true, false, ◌&&◌, false≢true}
use Prim.Native.Nat.{ℕ, zero, suc, ◌+◌, ◌<◌}
use native.Mathlib.Numerals.{add-one}
use native.Mathlib.Omega.{arith}
use Rattle.basics.specs.Pick.{unless}
use Rattle.basics.specs.Below.{all_below}
use Rattle.basics.proofs.All.{all_cong}
use Rattle.basics.proofs.Truth.{by_order}
use Rattle.pool.specs.Answers.{Check, fine, refuse, first, first_below, is_fine}
use Rattle.pool.specs.Sound.{keeps}

-- ---- none refuses exactly when each is fine

-- two checks of which the first that refuses counts, and none refused
pub first_both : (a b : Check) → first a b ≡ fine → (a ≡ fine) × (b ≡ fine)
unfolding first
first_both fine b h = (refl, h)
first_both (refuse n place) b h = let z : ◌≡◌ {A = ℕ} 0 1 = cc in absurd (omega arith)

pub never : {n place : ℕ} → refuse n place ≡ fine → ⊥
never h = let z : ◌≡◌ {A = ℕ} 0 1 = cc in omega arith

module _ (f : ℕ → Check) where
  pub each_fine : (n : ℕ) → first_below n f ≡ fine → (k : ℕ) → k < n → f k ≡ fine
  unfolding first_below
  each_fine zero h k l = absurd (omega arith)
  each_fine (suc n) h k l =
      let a = first_both (first_below n f) (f n) h in
      by_order n k
      (λ b. let q : k ≡ n = omega arith in rw q a.1)
      (λ b. each_fine n a.0 k b)

  pub all_fine : (n : ℕ) → ((k : ℕ) → k < n → f k ≡ fine) → first_below n f ≡ fine
  unfolding first_below first
  all_fine zero g = refl
  all_fine (suc n) g = rw (all_fine n (λ k l. g k (omega arith)), g n (omega arith))

-- ---- a loop that ends at the first check that refuses

module _ (f : ℕ → Check) where
  pub first_none : first_below 0 f ≡ fine
  unfolding first_below
  first_none = refl

  pub first_again : (k : ℕ) → first_below k f ≡ fine → f k ≡ fine → first_below (k + 1) f ≡ fine
  unfolding first_below first
  first_again k h e = rw (add-one, h) e

  stops : (n k number place : ℕ) → first_below k f ≡ fine → f k ≡ refuse number place → k < n → first_below n f ≡ refuse number place
  unfolding first_below first
  stops zero k number place h e l = absurd (omega arith)
  stops (suc n) k number place h e l =
      by_order n k
      (λ m. let q : k ≡ n = omega arith in rw (← q, h) e)
      (λ m. rw (stops n k number place h e m))

  pub first_stop : (k n number place : ℕ) → first_below k f ≡ fine → f k ≡ refuse number place → k < n → refuse number place ≡ first_below n f
  first_stop k n number place h e l = sym (stops n k number place h e l)

-- ---- a rule's test of n entries: none fails it, or entry k is the first that does

module _ (rule : ℕ) (place : ℕ → ℕ) (test : ℕ → Bool) (n : ℕ) where
  abbrev asks : ℕ → Check
  asks k = keeps rule (place k) (test k)

  pub all_pass : ((j : ℕ) → j < n → true ≡ test j) → fine ≡ first_below n asks
  unfolding unless
  all_pass h = sym (all_fine asks n (λ j l. rw (sym (h j l))))

  pub fails_first : (k : ℕ) → k < n → ((j : ℕ) → j < k → true ≡ test j) → false ≡ test k → refuse rule (place k) ≡ first_below n asks
  unfolding unless
  fails_first k l h e = first_stop asks k n rule (place k) (all_fine asks k (λ j b. rw (sym (h j b)))) (rw (sym e)) l

-- ---- nothing is refused exactly when every test holds

pub fine_is : (c : Check) → is_fine c ≡ true → c ≡ fine
fine_is fine h = refl
fine_is (refuse n place) h = absurd (false≢true h)

pub fine_first : (a b : Check) → is_fine (first a b) ≡ (is_fine a && is_fine b)
unfolding first
fine_first fine b = refl
fine_first (refuse n place) b = refl

fine_below : (n : ℕ) (f : ℕ → Check) → is_fine (first_below n f) ≡ all_below n (λ i. is_fine (f i))
unfolding first_below all_below
fine_below zero f = refl
fine_below (suc n) f = fine_first (first_below n f) (f n) ∙ ap (λ (t : Bool). t && is_fine (f n)) (fine_below n f)

pub fine_keeps : (rule place : ℕ) (test : Bool) → is_fine (keeps rule place test) ≡ test
unfolding unless
fine_keeps rule place true = refl
fine_keeps rule place false = refl

pub fine_each : (n rule : ℕ) (place : ℕ → ℕ) (test : ℕ → Bool) → is_fine (first_below n (λ k. keeps rule (place k) (test k))) ≡ all_below n test
fine_each n rule place test =
    fine_below n (λ k. keeps rule (place k) (test k))
    ∙ all_cong n (λ k. is_fine (keeps rule (place k) (test k))) test (λ k l. fine_keeps rule (place k) (test k))

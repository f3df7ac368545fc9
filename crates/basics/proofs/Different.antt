-- A list whose entries are 1 to b, no two of them equal, has at most b of them. Assumes nothing.
use Prim.Native.Nat.{ℕ, zero, suc, ◌-◌, ◌≤◌, ◌<◌}
use mathlib.Core.Path.{◌≡◌, refl, ap, ◌∙◌, subst}
use mathlib.Core.Bool.{Bool, false, ◌||◌, or_comm}
use mathlib.Core.List.{List}
use native.Mathlib.Omega.{arith}
use lib.Dec.{eqb}
use lib.ListN.{get_or}
use Rattle.basics.specs.Below.{any_below, count_below}
use Rattle.basics.specs.Among.{among_first}
use Rattle.basics.proofs.Count.{count_le, count_zero, count_more}
use Rattle.basics.proofs.Truth.{eqb_same}

-- entry k is one of 1 to b, and no earlier one
pub record New (l : List ℕ) (b k : ℕ) : Type 0 where
  pub some : 1 ≤ get_or l k 0
  pub most : get_or l k 0 ≤ b
  pub first : among_first l k (get_or l k 0) ≡ false

module _ (l : List ℕ) (b : ℕ) where
  -- as many numbers are among the first n as there are entries
  different_count : (n : ℕ) → ((k : ℕ) → k < n → New l b k) → count_below b (λ j. among_first l n (suc j)) ≡ n
  unfolding any_below
  different_count zero new = count_zero b (λ j. among_first l 0 (suc j)) (λ j h. refl)
  different_count (suc n) new =
      let e = new n (omega arith) in
      let x = get_or l n 0 in
      let some = e.some in
      let most = e.most in
      let back : suc (x - 1) ≡ x = omega arith in
      count_more b (λ j. among_first l n (suc j)) (λ j. among_first l (suc n) (suc j)) (x - 1) (omega arith) (ap (among_first l n) back ∙ e.first) (λ j h.
      or_comm (among_first l n (suc j)) (eqb x (suc j))
      ∙ ap (λ (t : Bool). t || among_first l n (suc j)) (eqb_same x (suc j) j (x - 1) (λ q. omega arith) (λ q. omega arith)))
      ∙ ap suc (different_count n (λ k h. new k (omega arith)))

  pub different_few : (n : ℕ) → ((k : ℕ) → k < n → New l b k) → n ≤ b
  different_few n new = subst (λ (m : ℕ). m ≤ b) (different_count n new) (count_le b (λ j. among_first l n (suc j)))

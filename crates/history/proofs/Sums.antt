-- The laws of `sum_below`, and of counts by them. Assumes nothing.
use mathlib.Core.Path.{◌≡◌, refl, sym, ap, ap₂, ◌∙◌}
use mathlib.Core.Bool.{Bool, false, not, ◌||◌, or-false, or_comm}
use mathlib.Core.List.{List}
use Prim.Native.Nat.{ℕ, zero, suc, ◌+◌, ◌-◌, ◌≤◌, ◌<◌}
use native.Mathlib.Omega.{arith}
use lib.Dec.{eqb}
use lib.ListN.{get_or}
use borrow.Author.Tests.{ne_eqb}
use Rattle.basics.specs.Below.{one, count_below, any_below}
use Rattle.basics.specs.Among.{among_first}
use Rattle.basics.proofs.Count.{count_zero, count_more}
use Rattle.basics.proofs.Truth.{eqb_same}
use Rattle.history.specs.Counts.{sum_below}

pub sum_cong : (n : ℕ) (f g : ℕ → ℕ) → ((k : ℕ) → k < n → f k ≡ g k) → sum_below n f ≡ sum_below n g
unfolding sum_below
sum_cong zero f g e = refl
sum_cong (suc n) f g e = ap₂ ◌+◌ (sum_cong n f g (λ k l. e k (omega arith))) (e n (omega arith))

pub sum_parts : (n : ℕ) (f g h : ℕ → ℕ) → ((k : ℕ) → k < n → f k ≡ g k + h k) → sum_below n f ≡ sum_below n g + sum_below n h
unfolding sum_below
sum_parts zero f g h e = refl
sum_parts (suc n) f g h e = omega (arith, sum_parts n f g h (λ k l. e k (omega arith)), e n (omega arith))

pub sum_ones : (n : ℕ) (f : ℕ → Bool) → sum_below n (λ k. one (f k)) ≡ count_below n f
unfolding sum_below count_below
sum_ones zero f = refl
sum_ones (suc n) f = ap (λ (x : ℕ). x + one (f n)) (sum_ones n f)

pub count_parts : (n : ℕ) (f g h : ℕ → Bool) → ((k : ℕ) → k < n → one (f k) ≡ one (g k) + one (h k))
    → count_below n f ≡ count_below n g + count_below n h
count_parts n f g h e =
    omega (arith, sum_parts n (λ k. one (f k)) (λ k. one (g k)) (λ k. one (h k)) e, sum_ones n f, sum_ones n g, sum_ones n h)

-- pairs counted by the one number or by the other
pub sum_swap : (n m : ℕ) (f : ℕ → ℕ → Bool) → sum_below n (λ k. count_below m (λ i. f i k)) ≡ sum_below m (λ i. count_below n (f i))
unfolding sum_below count_below
sum_swap n zero f = zeros n
  where
    zeros : (n : ℕ) → sum_below n (λ k. 0) ≡ 0
    zeros zero = refl
    zeros (suc n) = omega (arith, zeros n)
sum_swap n (suc m) f =
    sum_parts n (λ k. count_below m (λ i. f i k) + one (f m k)) (λ k. count_below m (λ i. f i k)) (λ k. one (f m k)) (λ k l. refl)
    ∙ ap₂ ◌+◌ (sum_swap n m f) (sum_ones n (f m))

-- of 1, 2, .., n one is x, unless x is 0
pub count_one : (n x : ℕ) → x ≤ n → count_below n (λ k. eqb x (suc k)) ≡ one (not (eqb x 0))
count_one n zero l = count_zero n (λ k. eqb 0 (suc k)) (λ k m. ne_eqb 0 (suc k) (λ e. omega arith))
count_one n (suc j) l =
    rw (ne_eqb (suc j) 0 (λ e. omega arith))
    (count_more n (λ k. false) (λ k. eqb (suc j) (suc k)) j l refl (λ k m.
    eqb_same (suc j) (suc k) k j (λ e. omega arith) (λ e. omega arith) ∙ sym (or-false (eqb k j)))
    ∙ ap suc (count_zero n (λ k. false) (λ k m. refl)))

-- entry k of a list is one of 1, 2, .., m, and no earlier entry is the same
pub record Once (m : ℕ) (l : List ℕ) (k : ℕ) : Type 0 where
  pub some : 1 ≤ get_or l k 0
  pub most : get_or l k 0 ≤ m
  pub first : among_first l k (get_or l k 0) ≡ false

-- of 1, 2, .., m so many are among n such entries
pub count_among : (m : ℕ) (l : List ℕ) (n : ℕ) → ((k : ℕ) → k < n → Once m l k) → count_below m (λ k. among_first l n (suc k)) ≡ n
unfolding any_below
count_among m l zero f = count_zero m (λ k. false) (λ k b. refl)
count_among m l (suc n) f =
    let x = get_or l n 0 in
    let e = f n (omega arith) in
    let back : suc (x - 1) ≡ x = omega arith in
    count_more m (λ k. among_first l n (suc k)) (λ k. among_first l (suc n) (suc k)) (x - 1) (omega arith) (ap (among_first l n) back ∙ e.first) (λ k b.
    or_comm (among_first l n (suc k)) (eqb x (suc k))
    ∙ ap (λ (t : Bool). t || among_first l n (suc k)) (eqb_same x (suc k) k (x - 1) (λ q. omega arith) (λ q. omega arith)))
    ∙ ap suc (count_among m l n (λ k b. f k (omega arith)))

-- The laws of `all_below`: of a loop that asks one more, of each entry, and of an entry replaced. Assumes nothing.
use Prim.Native.Nat.{ℕ, zero, suc, ◌+◌, ◌≤◌, ◌<◌}
use mathlib.Core.Path.{◌≡◌, refl, sym, ap, ap₂, subst, ◌∙◌}
use mathlib.Core.Bool.{Bool, true, false, ◌&&◌, ◌||◌, and_assoc, and-true, or-and_distrib_left}
use mathlib.Core.List.{List}
use native.Mathlib.Nat.{add-zero, add-suc}
use native.Mathlib.Numerals.{add-one}
use native.Mathlib.Omega.{arith}
use lib.Dec.{ltb, eqb}
use lib.ListN.{length, get_or, set}
use lib.Seq.{get_or-set_same, get_or-set_other, set_out}
use borrow.Author.Tests.{ltb-true, ltb-false, lt-ltb, eqb-true, eqb-false}
use Rattle.basics.specs.Below.{all_below}
use Rattle.basics.proofs.Truth.{and_left, and_right, and_swap, by_order}

-- before the first turn of a loop, after one more, and after the last
pub all_none : (f : ℕ → Bool) → true ≡ all_below 0 f
unfolding all_below
all_none f = refl

pub all_again : (n : ℕ) (f : ℕ → Bool) {ok s : Bool} → ok ≡ all_below n f → s ≡ f n → (ok && s) ≡ all_below (n + 1) f
unfolding all_below
all_again n f h e = rw (add-one, h, e)

pub all_done : (f : ℕ → Bool) {k n : ℕ} {ok : Bool} → ok ≡ all_below k f → k ≡ n → ok ≡ all_below n f
all_done f h e = cc

last : (n : ℕ) (f : ℕ → Bool) (i : ℕ) → (i < n → f i ≡ true) → f n ≡ true → i < suc n → (b : Bool) → ltb i n ≡ b → f i ≡ true
last n f i below at l true e = below (ltb-true i n e)
last n f i below at l false e = let q : i ≡ n = omega (arith, ltb-false i n e) in rw q at

-- all pass exactly when each does
pub all_at : (n : ℕ) (f : ℕ → Bool) → all_below n f ≡ true → (i : ℕ) → i < n → f i ≡ true
unfolding all_below
all_at zero f h i l = absurd (omega arith)
all_at (suc n) f h i l = last n f i (all_at n f (and_left (all_below n f) (f n) h) i) (and_right (all_below n f) (f n) h) l (ltb i n) refl

pub all_of : (n : ℕ) (f : ℕ → Bool) → ((i : ℕ) → i < n → f i ≡ true) → all_below n f ≡ true
unfolding all_below
all_of zero f h = refl
all_of (suc n) f h = rw (all_of n f (λ i l. h i (omega arith)), h n (omega arith))

pub all_cong : (n : ℕ) (f g : ℕ → Bool) → ((i : ℕ) → i < n → f i ≡ g i) → all_below n f ≡ all_below n g
unfolding all_below
all_cong zero f g e = refl
all_cong (suc n) f g e = ap₂ ◌&&◌ (all_cong n f g (λ i l. e i (omega arith))) (e n (omega arith))

-- two tests asked together
pub all_and : (n : ℕ) (f g : ℕ → Bool) → all_below n (λ k. f k && g k) ≡ (all_below n f && all_below n g)
unfolding all_below
all_and zero f g = refl
all_and (suc n) f g =
    ap (λ (t : Bool). t && (f n && g n)) (all_and n f g)
    ∙ and_assoc (all_below n f) (all_below n g) (f n && g n)
    ∙ ap (λ (t : Bool). all_below n f && t) (and_swap (all_below n g) (f n) (g n))
    ∙ sym (and_assoc (all_below n f) (f n) (all_below n g && g n))

pub all_or_and : (n : ℕ) (t f g : ℕ → Bool) → all_below n (λ k. t k || (f k && g k)) ≡ (all_below n (λ k. t k || f k) && all_below n (λ k. t k || g k))
all_or_and n t f g =
    all_cong n (λ k. t k || (f k && g k)) (λ k. (t k || f k) && (t k || g k)) (λ k l. or-and_distrib_left (t k) (f k) (g k))
    ∙ all_and n (λ k. t k || f k) (λ k. t k || g k)

-- the first m, and the n after them
pub all_split : (m n : ℕ) (f : ℕ → Bool) → all_below (m + n) f ≡ (all_below m f && all_below n (λ k. f (m + k)))
unfolding all_below
all_split m zero f = ap (λ (k : ℕ). all_below k f) (add-zero m) ∙ sym (and-true (all_below m f))
all_split m (suc n) f =
    ap (λ (k : ℕ). all_below k f) (add-suc m n)
    ∙ ap (λ (t : Bool). t && f (m + n)) (all_split m n f)
    ∙ and_assoc (all_below m f) (all_below n (λ k. f (m + k))) (f (m + n))

module _ {A : Type 0} where
  same_entry : (f : A → Bool) (l : List A) (i : ℕ) (a d : A) → f a ≡ true → f (get_or l i d) ≡ true
      → (b : Bool) → ltb i (length l) ≡ b → f (get_or (set l i a) i d) ≡ true
  same_entry f l i a d new old true e = rw (get_or-set_same l i a d (ltb-true i (length l) e)) new
  same_entry f l i a d new old false e = rw (set_out l i a (ltb-false i (length l) e)) old

  entry : (f : ℕ → A → Bool) (l : List A) (i : ℕ) (a d : A) → f i a ≡ true → (k : ℕ) → f k (get_or l k d) ≡ true
      → (b : Bool) → eqb k i ≡ b → f k (get_or (set l i a) k d) ≡ true
  entry f l i a d new k old true e =
      let q : k ≡ i = eqb-true k i e in
      subst (λ (j : ℕ). f j (get_or l j d) ≡ true → f j (get_or (set l i a) j d) ≡ true) (sym q)
      (λ o. same_entry (f i) l i a d new o (ltb i (length l)) refl) old
  entry f l i a d new k old false e = rw (get_or-set_other l i k a d (eqb-false k i e)) old

  -- one entry replaced by one that passes: all still pass
  pub all_set : (n : ℕ) (f : ℕ → A → Bool) (l : List A) (i : ℕ) (a d : A) → all_below n (λ k. f k (get_or l k d)) ≡ true
      → f i a ≡ true → all_below n (λ k. f k (get_or (set l i a) k d)) ≡ true
  all_set n f l i a d h new =
      all_of n (λ k. f k (get_or (set l i a) k d)) (λ k b. entry f l i a d new k (all_at n (λ k. f k (get_or l k d)) h k b) (eqb k i) refl)

-- entries below the count pass, and those from it on answer as before
pub all_beyond : (n count : ℕ) (f g : ℕ → Bool) → all_below n (λ k. ltb k count || f k) ≡ true → ((k : ℕ) → count ≤ k → g k ≡ f k)
    → all_below n (λ k. ltb k count || g k) ≡ true
all_beyond n count f g h same =
    all_of n (λ k. ltb k count || g k) (λ k l.
    by_order count k
    (λ b. ap (λ (t : Bool). ltb k count || t) (same k b) ∙ all_at n (λ k. ltb k count || f k) h k l)
    (λ b. rw (lt-ltb k count b)))

-- for the needs of a loop that asks every entry: `search (needs, scans)`
pub ruleset scans = (all_none, all_again, all_done)

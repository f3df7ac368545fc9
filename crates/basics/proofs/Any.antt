-- The laws of `any_below` and of `among`. Assumes nothing.
use Prim.Native.Nat.{ℕ, zero, suc, ◌+◌, ◌<◌}
use mathlib.Core.Path.{◌≡◌, refl, sym, ap, ap₂, ◌∙◌, subst}
use mathlib.Core.Bool.{Bool, true, false, ◌||◌, or-true, or-false, or_assoc, false≢true}
use mathlib.Core.List.{List, ◌∷◌, ◌++◌}
use native.Mathlib.Numerals.{add-one}
use native.Mathlib.Omega.{arith}
use lib.Dec.{eqb}
use lib.ListN.{length, get_or, get_or-append}
use borrow.Author.Tests.{eqb-true}
use Rattle.basics.specs.Below.{any_below}
use Rattle.basics.specs.Among.{among_first, among}
use Rattle.basics.proofs.Truth.{or_cases, by_order}

-- before the first turn of a loop, after one more, and after the last
pub any_none : (f : ℕ → Bool) → false ≡ any_below 0 f
unfolding any_below
any_none f = refl

pub any_again : (n : ℕ) (f : ℕ → Bool) {found s : Bool} → found ≡ any_below n f → s ≡ f n → (found || s) ≡ any_below (n + 1) f
unfolding any_below
any_again n f h e = rw (add-one, h, e)

pub any_done : (f : ℕ → Bool) {k n : ℕ} {found : Bool} → found ≡ any_below k f → k ≡ n → found ≡ any_below n f
any_done f h e = cc

-- none passes; some one does
pub any_false : (n : ℕ) (f : ℕ → Bool) → ((i : ℕ) → i < n → f i ≡ false) → any_below n f ≡ false
unfolding any_below
any_false zero f h = refl
any_false (suc n) f h = ap₂ ◌||◌ (any_false n f (λ i l. h i (omega arith))) (h n (omega arith))

pub any_true : (n : ℕ) (f : ℕ → Bool) (i : ℕ) → i < n → f i ≡ true → any_below n f ≡ true
unfolding any_below
any_true zero f i l e = absurd (omega arith)
any_true (suc n) f i l e =
    by_order n i
    (λ h. let s : i ≡ n = omega arith in rw (← s, e) (or-true (any_below i f)))
    (λ h. rw (any_true n f i h e))

-- one that passes, where some one does
pub any_at : (n : ℕ) (f : ℕ → Bool) {P : Type 0} → any_below n f ≡ true → ((i : ℕ) → i < n → f i ≡ true → P) → P
unfolding any_below
any_at zero f h g = absurd (false≢true h)
any_at (suc n) f h g = or_cases (any_below n f) (f n) h (λ e. any_at n f e (λ i l. g i (omega arith))) (g n (omega arith))

-- what each entry of a list is, a number among them is
pub among_each : (P : ℕ → Type 0) (l : List ℕ) → ((k : ℕ) → k < length l → P (get_or l k 0)) → (x : ℕ) → among l x ≡ true → P x
among_each P l h x e = any_at (length l) (λ j. eqb (get_or l j 0) x) e (λ k b q. subst P (eqb-true (get_or l k 0) x q) (h k b))

pub any_cong : (n : ℕ) (f g : ℕ → Bool) → ((i : ℕ) → i < n → f i ≡ g i) → any_below n f ≡ any_below n g
unfolding any_below
any_cong zero f g e = refl
any_cong (suc n) f g e = ap₂ ◌||◌ (any_cong n f g (λ i l. e i (omega arith))) (e n (omega arith))

-- the first, and those after it
pub any_front : (n : ℕ) (f : ℕ → Bool) → any_below (suc n) f ≡ (f 0 || any_below n (λ k. f (suc k)))
unfolding any_below
any_front zero f = sym (or-false (f 0))
any_front (suc n) f = ap (λ (t : Bool). t || f (suc n)) (any_front n f) ∙ or_assoc (f 0) (any_below n (λ k. f (suc k))) (f (suc n))

pub among_cons : (y : ℕ) (l : List ℕ) (x : ℕ) → among (y ∷ l) x ≡ (eqb y x || among l x)
among_cons y l x = any_front (length l) (λ j. eqb (get_or (y ∷ l) j 0) x)

-- the front of two lists
pub among_front : (l m : List ℕ) (x : ℕ) → among_first (l ++ m) (length l) x ≡ among l x
among_front l m x =
    any_cong (length l) (λ j. eqb (get_or (l ++ m) j 0) x) (λ j. eqb (get_or l j 0) x) (λ j h.
    ap (λ (n : ℕ). eqb n x) (get_or-append l m 0 j h))

-- for the needs of a loop that looks for one: `search (needs, finds)`
pub ruleset finds = (any_none, any_again, any_done)

-- The laws of `count_below`: of a loop that counts one more, of equal tests, of one test more. Assumes nothing.
use Prim.Native.Nat.{ℕ, zero, suc, ◌+◌, ◌≤◌, ◌<◌}
use mathlib.Core.Path.{◌≡◌, refl, sym, ap, ap₂, ◌∙◌}
use mathlib.Core.Bool.{Bool, true, false, ◌||◌}
use native.Mathlib.Nat.{add-zero, add-suc}
use native.Mathlib.Numerals.{add-one}
use native.Mathlib.Omega.{arith}
use lib.Dec.{T, eqb, leb, lit≤}
use mir.Syntax.{w32}
use mir.Val.{Fits, bool_byte}
use borrow.Author.Tests.{eq-eqb, ne_eqb}
use Rattle.basics.specs.Below.{one, count_below}
use Rattle.basics.proofs.Truth.{by_order}

pub one_le : (b : Bool) → one b ≤ 1
one_le true = omega arith
one_le false = omega arith

-- before the first turn of a loop, and after one more
pub count_none : (f : ℕ → Bool) → count_below 0 f ≡ 0
unfolding count_below
count_none f = refl

pub count_again : (n : ℕ) (f : ℕ → Bool) → count_below (n + 1) f ≡ count_below n f + one (f n)
unfolding count_below
count_again n f = rw add-one

pub count_le : (n : ℕ) (f : ℕ → Bool) → count_below n f ≤ n
unfolding count_below
count_le zero f = omega arith
count_le (suc n) f = omega (arith, count_le n f, one_le (f n))

pub count_cong : (n : ℕ) (f g : ℕ → Bool) → ((k : ℕ) → k < n → f k ≡ g k) → count_below n f ≡ count_below n g
unfolding count_below
count_cong zero f g e = refl
count_cong (suc n) f g e = ap₂ (λ (x : ℕ) (y : Bool). x + one y) (count_cong n f g (λ k l. e k (omega arith))) (e n (omega arith))

-- the first m, and the n after them
pub count_split : (m n : ℕ) (f : ℕ → Bool) → count_below (m + n) f ≡ count_below m f + count_below n (λ k. f (m + k))
unfolding count_below
count_split m zero f = ap (λ (k : ℕ). count_below k f) (add-zero m) ∙ sym (add-zero (count_below m f))
count_split m (suc n) f =
    let e : count_below (m + suc n) f ≡ count_below (suc (m + n)) f = ap (λ (k : ℕ). count_below k f) (add-suc m n) in
    omega (arith, count_split m n f)

-- the first, and those after it
pub count_front : (n : ℕ) (f : ℕ → Bool) → count_below (suc n) f ≡ one (f 0) + count_below n (λ k. f (suc k))
unfolding count_below
count_front zero f = omega arith
count_front (suc n) f = omega (arith, count_front n f)

pub count_zero : (n : ℕ) (f : ℕ → Bool) → ((k : ℕ) → k < n → f k ≡ false) → count_below n f ≡ 0
unfolding count_below
count_zero zero f e = refl
count_zero (suc n) f e = ap₂ (λ (x : ℕ) (y : Bool). x + one y) (count_zero n f (λ k l. e k (omega arith))) (e n (omega arith))

pub count_some : (n : ℕ) (f : ℕ → Bool) (k : ℕ) → k < n → f k ≡ true → 0 < count_below n f
unfolding count_below
count_some zero f k h e = absurd (omega arith)
count_some (suc n) f k h e =
    by_order n k
    (λ l. let q : k ≡ n = omega arith in let o : one (f n) ≡ 1 = ap one (ap f (sym q) ∙ e) in omega arith)
    (λ l. omega (arith, count_some n f k l e))

-- g is f, and j besides
pub count_more : (n : ℕ) (f g : ℕ → Bool) (j : ℕ) → j < n → f j ≡ false → ((k : ℕ) → k < n → g k ≡ (eqb k j || f k))
    → count_below n g ≡ suc (count_below n f)
unfolding count_below
count_more zero f g j h e w = absurd (omega arith)
count_more (suc n) f g j h e w =
    by_order n j
    (λ l.
    let q : n ≡ j = omega arith in
    let new : one (g n) ≡ 1 = ap one (w n (omega arith) ∙ ap (λ (t : Bool). t || f n) (eq-eqb n j q)) in
    let old : one (f n) ≡ 0 = ap one (ap f q ∙ e) in
    let rest : count_below n g ≡ count_below n f = count_cong n g f (λ k m. w k (omega arith) ∙ ap (λ (t : Bool). t || f k) (ne_eqb k j (λ z. omega arith))) in
    omega arith)
    (λ l.
    let here : one (g n) ≡ one (f n) = ap one (w n (omega arith) ∙ ap (λ (t : Bool). t || f n) (ne_eqb n j (λ z. omega arith))) in
    omega (arith, count_more n f g j l e (λ k m. w k (omega arith))))

-- ---- a loop that adds each test as code makes a number of it: before the first turn, after one more, and after the last

pub byte_one : (t : Bool) → bool_byte t ≡ one t
byte_one true = refl
byte_one false = refl

pub byte_le : (t : Bool) (n k : ℕ) → n ≤ k → n + bool_byte t ≤ k + 1
byte_le true n k h = omega arith
byte_le false n k h = omega arith

pub byte_fits : (t : Bool) (n k m : ℕ) → n ≤ k → k ≤ m → T (leb m 256) → Fits w32 (n + bool_byte t)
byte_fits t n k m h l e = let b : m ≤ 256 = lit≤ e in record { fits = omega (arith, byte_le t n k h) }

pub tally_none : (f : ℕ → Bool) → 0 ≡ count_below 0 f
tally_none f = sym (count_none f)

pub tally_again : (k : ℕ) (f : ℕ → Bool) {n : ℕ} {t : Bool} → n ≡ count_below k f → t ≡ f k → n + bool_byte t ≡ count_below (k + 1) f
tally_again k f h e = rw (h, e, byte_one (f k)) (sym (count_again k f))

pub tally_done : (f : ℕ → Bool) {k m n : ℕ} → n ≡ count_below k f → k ≡ m → n ≡ count_below m f
tally_done f h e = cc

-- for the needs of such a loop: `search (needs, tallies)`
pub ruleset tallies = (byte_le, byte_fits, tally_none, tally_again, tally_done)

-- The binary digits of a number: `digit n k`. The bit operations of `lib.Bits` and the counts of `lib.Count`, digit by digit.
-- Assumes nothing.
use mathlib.Core.Path.{◌≡◌, refl, sym, ap, ap₂, ◌∙◌, subst}
use mathlib.Core.Bool.{Bool, true, false, not, ◌&&◌, ◌||◌, true≢false, false≢true}
use Prim.Native.Nat.{ℕ, zero, suc, ◌+◌, ◌-◌, ◌*◌, ◌/◌, ◌%◌, ◌^◌, ◌<◌, min, max, suc-le-suc}
use native.Mathlib.Nat.{div-one, pow-suc, mod-lt, zero-lt-suc, le_of_suc-le-suc, not-suc-le-zero, lt_of_not-le, div-eq_of_lt, lt_of_lt_of_le}
use native.Mathlib.Numerals.{one-add}
use native.Mathlib.Omega.{arith}
use lib.Dec.{eqb, eqb-zero-suc, eqb-suc-zero, eqb-suc-suc}
use lib.Arith.{lt-one, digits_mod}
use lib.Pow.{shr-shr, pow_pos, pow_mono}
use lib.Bits.{bit_and, bit_or, and_step, or_step, and_shr, or_shr, shifted_half, shifted_even}
use lib.Count.{ones, ones_step, count_trailing_zeros, under}
use Rattle.basics.specs.Below.{one, count_below}
use Rattle.basics.proofs.Count.{count_none, count_front, count_cong}
use Rattle.idset.specs.Members.{digit, pack}

-- ---- the lowest digit, and the others

pub digit_zero : (n : ℕ) → digit n 0 ≡ eqb (n % 2) 1
unfolding digit
digit_zero n = ap (λ (x : ℕ). eqb (x % 2) 1) (div-one n)

pub digit_suc : (n k : ℕ) → digit n (suc k) ≡ digit (n / 2) k
unfolding digit
digit_suc n k = ap (λ (x : ℕ). eqb (x % 2) 1) (ap (λ (x : ℕ). n / 2 ^ x) (sym (one-add k)) ∙ sym (shr-shr n 1 k))

bit_lt : (n : ℕ) → n % 2 < 2
bit_lt n = mod-lt n (zero-lt-suc 1)

half_lt : {n : ℕ} (k : ℕ) → n < 2 ^ suc k → n / 2 < 2 ^ k
half_lt {n} k h = let l : n < 2 ^ k * 2 = subst (λ (x : ℕ). n < x) (pow-suc 2 k) h in omega arith

-- ---- two numbers of k digits are equal where their digits are

bit_eq : (x y : ℕ) → x < 2 → y < 2 → eqb x 1 ≡ eqb y 1 → x ≡ y
bit_eq zero zero hx hy e = refl
bit_eq zero (suc zero) hx hy e = absurd (false≢true e)
bit_eq zero (suc (suc y)) hx hy e = omega arith
bit_eq (suc zero) zero hx hy e = absurd (true≢false e)
bit_eq (suc zero) (suc zero) hx hy e = refl
bit_eq (suc zero) (suc (suc y)) hx hy e = omega arith
bit_eq (suc (suc x)) y hx hy e = omega arith

pub digits_ext : (k n m : ℕ) → n < 2 ^ k → m < 2 ^ k → ((j : ℕ) → j < k → digit n j ≡ digit m j) → n ≡ m
digits_ext zero n m hn hm e = lt-one hn ∙ sym (lt-one hm)
digits_ext (suc k) n m hn hm e =
    let low : n % 2 ≡ m % 2 = bit_eq (n % 2) (m % 2) (bit_lt n) (bit_lt m) (sym (digit_zero n) ∙ e 0 (zero-lt-suc k) ∙ digit_zero m) in
    let high : n / 2 ≡ m / 2 =
    digits_ext k (n / 2) (m / 2) (half_lt k hn) (half_lt k hm) (λ j h. sym (digit_suc n j) ∙ e (suc j) (suc-le-suc h) ∙ digit_suc m j) in
    omega arith

-- ---- the bit operations

or_bits : (x y : ℕ) → x < 2 → y < 2 → eqb (max x y) 1 ≡ (eqb x 1 || eqb y 1)
or_bits zero zero hx hy = refl
or_bits zero (suc zero) hx hy = refl
or_bits zero (suc (suc y)) hx hy = absurd (omega arith)
or_bits (suc zero) zero hx hy = refl
or_bits (suc zero) (suc zero) hx hy = refl
or_bits (suc zero) (suc (suc y)) hx hy = absurd (omega arith)
or_bits (suc (suc x)) y hx hy = absurd (omega arith)

and_bits : (x y : ℕ) → x < 2 → y < 2 → eqb (min x y) 1 ≡ (eqb x 1 && eqb y 1)
and_bits zero zero hx hy = refl
and_bits zero (suc zero) hx hy = refl
and_bits zero (suc (suc y)) hx hy = absurd (omega arith)
and_bits (suc zero) zero hx hy = refl
and_bits (suc zero) (suc zero) hx hy = refl
and_bits (suc zero) (suc (suc y)) hx hy = absurd (omega arith)
and_bits (suc (suc x)) y hx hy = absurd (omega arith)

not_bits : (x : ℕ) → x < 2 → eqb (1 - x) 1 ≡ not (eqb x 1)
not_bits zero h = refl
not_bits (suc zero) h = refl
not_bits (suc (suc x)) h = absurd (omega arith)

pub digit_or : (a b k : ℕ) → digit (bit_or a b) k ≡ (digit a k || digit b k)
unfolding digit
digit_or a b k =
    let x = a / 2 ^ k in
    let y = b / 2 ^ k in
    ap (λ (n : ℕ). eqb (n % 2) 1) (or_shr a b k ∙ or_step x y)
    ∙ ap (λ (n : ℕ). eqb n 1) (digits_mod (bit_or (x / 2) (y / 2)) (omega (arith, bit_lt x, bit_lt y)))
    ∙ or_bits (x % 2) (y % 2) (bit_lt x) (bit_lt y)

pub digit_and : (a b k : ℕ) → digit (bit_and a b) k ≡ (digit a k && digit b k)
unfolding digit
digit_and a b k =
    let x = a / 2 ^ k in
    let y = b / 2 ^ k in
    ap (λ (n : ℕ). eqb (n % 2) 1) (and_shr a b k ∙ and_step x y)
    ∙ ap (λ (n : ℕ). eqb n 1) (digits_mod (bit_and (x / 2) (y / 2)) (omega (arith, bit_lt x, bit_lt y)))
    ∙ and_bits (x % 2) (y % 2) (bit_lt x) (bit_lt y)

-- no digit of 0 is set
pub digit_none : (k : ℕ) → digit 0 k ≡ false
digit_none zero = digit_zero 0
digit_none (suc k) = digit_suc 0 k ∙ digit_none k

-- `1 << a` has digit a alone
pub digit_power : (a k : ℕ) → digit (1 * 2 ^ a) k ≡ eqb k a
digit_power zero zero = digit_zero 1
digit_power zero (suc k) = digit_suc 1 k ∙ digit_none k ∙ sym (eqb-suc-zero k)
digit_power (suc a) zero = digit_zero (1 * 2 ^ suc a) ∙ ap (λ (x : ℕ). eqb x 1) (shifted_even 1 a) ∙ sym (eqb-zero-suc a)
digit_power (suc a) (suc k) =
    digit_suc (1 * 2 ^ suc a) k ∙ ap (λ (x : ℕ). digit x k) (shifted_half 1 a) ∙ digit_power a k ∙ sym (eqb-suc-suc k a)

-- `!m` in j digits
pub digit_not : (j m k : ℕ) → m < 2 ^ j → k < j → digit ((2 ^ j - 1) - m) k ≡ not (digit m k)
digit_not zero m k h l = absurd (not-suc-le-zero l)
digit_not (suc j) m zero h l =
    let e = pow-suc 2 j in
    let p = pow_pos j in
    let low : ((2 ^ suc j - 1) - m) % 2 ≡ 1 - m % 2 = omega arith in
    digit_zero ((2 ^ suc j - 1) - m) ∙ ap (λ (x : ℕ). eqb x 1) low ∙ not_bits (m % 2) (bit_lt m) ∙ ap not (sym (digit_zero m))
digit_not (suc j) m (suc k) h l =
    let e = pow-suc 2 j in
    let p = pow_pos j in
    let high : ((2 ^ suc j - 1) - m) / 2 ≡ (2 ^ j - 1) - m / 2 = omega arith in
    digit_suc ((2 ^ suc j - 1) - m) k ∙ ap (λ (x : ℕ). digit x k) high ∙ digit_not j (m / 2) k (half_lt j h) (le_of_suc-le-suc l)
    ∙ ap not (sym (digit_suc m k))

-- a number shifted right; no digit stands above a number's length
pub digit_shr : (n m k : ℕ) → digit (n / 2 ^ m) k ≡ digit n (m + k)
unfolding digit
digit_shr n m k = ap (λ (x : ℕ). eqb (x % 2) 1) (shr-shr n m k)

pub digit_short : {n : ℕ} (k j : ℕ) → n < 2 ^ k → digit n j ≡ true → j < k
unfolding digit
digit_short {n} k j h e = lt_of_not-le (λ l.
    true≢false (sym e ∙ ap (λ (x : ℕ). eqb (x % 2) 1) (div-eq_of_lt (lt_of_lt_of_le h (pow_mono l)))))

-- ---- trailing zeros: the place of the lowest digit that is set

pub record Lowest (n t : ℕ) : Type 0 where
  pub here : digit n t ≡ true
  pub below : (j : ℕ) → j < t → digit n j ≡ false

lowest_zero : {n : ℕ} → n % 2 ≡ 1 → Lowest n 0
lowest_zero {n} e = record { here = digit_zero n ∙ ap (λ (x : ℕ). eqb x 1) e; below = λ j l. absurd (not-suc-le-zero l) }

below_suc : (n t : ℕ) → n % 2 ≡ 0 → ((j : ℕ) → j < t → digit (n / 2) j ≡ false) → (j : ℕ) → j < suc t → digit n j ≡ false
below_suc n t e f zero l = digit_zero n ∙ ap (λ (x : ℕ). eqb x 1) e
below_suc n t e f (suc j) l = digit_suc n j ∙ f j (le_of_suc-le-suc l)

pub trailing_lowest : (k n : ℕ) → n < 2 ^ k → (n ≡ 0 → ⊥) → (count_trailing_zeros k n < k) × Lowest n (count_trailing_zeros k n)
unfolding count_trailing_zeros
trailing_lowest zero n h f = absurd (f (lt-one h))
trailing_lowest (suc k) n h f = go (trailing_lowest k (n / 2) (half_lt k h)) (n % 2) refl
  where
    go : ((n / 2 ≡ 0 → ⊥) → (count_trailing_zeros k (n / 2) < k) × Lowest (n / 2) (count_trailing_zeros k (n / 2)))
        → (d : ℕ) → n % 2 ≡ d → (under d (count_trailing_zeros k (n / 2)) < suc k) × Lowest n (under d (count_trailing_zeros k (n / 2)))
    go rest zero e =
        let ih = rest (λ z. f (omega arith)) in
        (suc-le-suc ih.0, record { here = digit_suc n (count_trailing_zeros k (n / 2)) ∙ ih.1.here; below = below_suc n (count_trailing_zeros k (n / 2)) e ih.1.below })
    go rest (suc d) e = (zero-lt-suc k, lowest_zero (omega (arith, bit_lt n)))

-- ---- the count of the set digits

one_bit : (x : ℕ) → x < 2 → x ≡ one (eqb x 1)
one_bit zero h = refl
one_bit (suc zero) h = refl
one_bit (suc (suc x)) h = absurd (omega arith)

pub ones_count : (k n : ℕ) → n < 2 ^ k → ones n ≡ count_below k (digit n)
unfolding ones
ones_count zero n h = ap ones (lt-one h) ∙ sym (count_none (digit n))
ones_count (suc k) n h =
    ones_step n
    ∙ ap₂ (λ (x y : ℕ). x + y) (one_bit (n % 2) (bit_lt n) ∙ ap one (sym (digit_zero n)))
    (ones_count k (n / 2) (half_lt k h) ∙ count_cong k (digit (n / 2)) (λ j. digit n (suc j)) (λ j l. sym (digit_suc n j)))
    ∙ sym (count_front k (digit n))

-- ---- a number made of its digits

one_lt : (b : Bool) → one b < 2
one_lt true = omega arith
one_lt false = omega arith

one_is : (b : Bool) → eqb (one b) 1 ≡ b
one_is true = refl
one_is false = refl

pub pack_lt : (p : ℕ → Bool) (n : ℕ) → pack p n < 2 ^ n
unfolding pack
pack_lt p zero = zero-lt-suc 0
pack_lt p (suc n) = omega (arith, pow-suc 2 n, one_lt (p 0), pack_lt (λ k. p (suc k)) n)

pub pack_digit : (p : ℕ → Bool) (n k : ℕ) → k < n → digit (pack p n) k ≡ p k
unfolding pack
pack_digit p zero k h = absurd (not-suc-le-zero h)
pack_digit p (suc n) zero h =
    let r = pack (λ k. p (suc k)) n in
    let low : (one (p 0) + 2 * r) % 2 ≡ one (p 0) = omega (arith, one_lt (p 0)) in
    digit_zero (one (p 0) + 2 * r) ∙ ap (λ (x : ℕ). eqb x 1) low ∙ one_is (p 0)
pack_digit p (suc n) (suc k) h =
    let r = pack (λ k. p (suc k)) n in
    let high : (one (p 0) + 2 * r) / 2 ≡ r = omega (arith, one_lt (p 0)) in
    digit_suc (one (p 0) + 2 * r) k ∙ ap (λ (x : ℕ). digit x k) high ∙ pack_digit (λ k. p (suc k)) n k (le_of_suc-le-suc h)

-- The laws of `within_of`, and the test of it word by word. Assumes nothing.
use mathlib.Core.Path.{◌≡◌, refl, sym, ap, ap₂, ◌∙◌}
use mathlib.Core.Bool.{Bool, true, false, not, ◌&&◌, ◌||◌, false≢true}
use Prim.Native.Nat.{ℕ, suc, ◌+◌, ◌-◌, ◌*◌, ◌/◌, ◌^◌, ◌≤◌, ◌<◌, max}
use native.Mathlib.Nat.{zero-add, div-one, div-eq_of_lt, le-div_iff_mul-le, lt_of_lt_of_le}
use native.Mathlib.Omega.{arith}
use lib.Dec.{eqb, leb, ltb, lit<}
use lib.ListN.{get_or}
use lib.Pow.{pow_pos, pow_mono, shr_le}
use borrow.Author.Tests.{le-leb, leb-true, lt-ltb, ltb-true, ltb-false, eq-eqb, ne_eqb, eqb-true}
use Rattle.basics.specs.Below.{all_below}
use Rattle.basics.proofs.Truth.{and_left, and_right, or_cases, reorder, both, by_order, is_false}
use Rattle.basics.proofs.All.{all_at, all_of, all_cong, all_split}
use Rattle.idset.specs.declared.IdSet.{IdSet}
use Rattle.idset.specs.Members.{digit, is_id, member_of, no_ids, with_of, without_of, within_of, larger_at, larger_of}
use Rattle.idset.proofs.Digits.{digits_ext, digit_shr, digit_none, digit_short}
use Rattle.idset.proofs.Members.{Formed, formed_words, id_low, id_high, member_id, member_at, member_none, member_with, member_without}
use Rattle.idset.proofs.Size.{pred_id}

-- ---- every member is at most a

pub within_true : (s : IdSet) (a : ℕ) → within_of s a ≡ true → (b : ℕ) → member_of s b ≡ true → b ≤ a
unfolding within_of
within_true s a e b m =
    let lo = id_low b (member_id s b m) in
    let hi = id_high b (member_id s b m) in
    let q = pred_id lo in
    let here = all_at 256 (λ k. not (member_of s (suc k)) || leb (suc k) a) e (b - 1) (omega arith) in
    leb-true b a (ap (λ (n : ℕ). leb n a) (sym q) ∙ ap (λ (t : Bool). not t || leb (suc (b - 1)) a) (sym (ap (member_of s) q ∙ m)) ∙ here)

pub within_all : (s : IdSet) (a : ℕ) → ((b : ℕ) → member_of s b ≡ true → b ≤ a) → within_of s a ≡ true
unfolding within_of
within_all s a f = all_of 256 (λ k. not (member_of s (suc k)) || leb (suc k) a) (λ k h. go (suc k) (member_of s (suc k)) refl)
  where
    go : (b : ℕ) (t : Bool) → member_of s b ≡ t → (not t || leb b a) ≡ true
    go b true e = le-leb b a (f b e)
    go b false e = refl

pub none_within : (a : ℕ) → within_of no_ids a ≡ true
none_within a = within_all no_ids a (λ b m. absurd (false≢true (sym (member_none b) ∙ m)))

pub with_within : (s : IdSet) (a most : ℕ) → within_of s most ≡ true → a ≤ most → within_of (with_of s a) most ≡ true
with_within s a most h l =
    within_all (with_of s a) most (λ b m.
    or_cases (eqb b a) (member_of s b) (and_right (is_id b) (eqb b a || member_of s b) (sym (member_with s a b) ∙ m))
    (λ e. omega (arith, eqb-true b a e))
    (within_true s most h b))

pub without_within : (s : IdSet) (a most : ℕ) → within_of s most ≡ true → within_of (without_of s a) most ≡ true
without_within s a most h =
    within_all (without_of s a) most (λ b m.
    within_true s most h b (and_right (not (eqb b a)) (member_of s b) (sym (member_without s a b) ∙ m)))

-- ---- a word has no digit at n or above exactly when a shift by n leaves nothing

shift_test : (x m : ℕ) → 0 < m → (b : Bool) → ltb x m ≡ b → ltb x m ≡ eqb (x / m) 0
shift_test x m p true e = e ∙ sym (eq-eqb _ _ (div-eq_of_lt (ltb-true x m e)))
shift_test x m p false e =
    e ∙ sym (ne_eqb _ _ (λ (q : x / m ≡ 0). let h : 1 ≤ x / m = (le-div_iff_mul-le p).1 (omega (arith, ltb-false x m e)) in omega arith))

pub clear_shifted : (x n : ℕ) → ltb x (2 ^ n) ≡ eqb (x / 2 ^ n) 0
clear_shifted x n = shift_test x (2 ^ n) (pow_pos n) (ltb x (2 ^ n)) refl

pub clear_whole : (x n : ℕ) → x < 2 ^ 64 → 64 ≤ n → ltb x (2 ^ n) ≡ true
clear_whole x n h l = lt-ltb _ _ (lt_of_lt_of_le h (pow_mono l))

pub clear_none : (x base limit : ℕ) → limit ≤ base → eqb x 0 ≡ ltb x (2 ^ (limit - base))
clear_none x base limit h = let z : limit - base ≡ 0 = omega arith in rw z (sym (clear_shifted x 0 ∙ rw div-one))

-- ---- the ids of word i

module _ (s : IdSet) (i a : ℕ) (h : Formed s) (hi : i < 4) where
  abbrev word : ℕ
  word = get_or s.words i 0

  asked : ℕ → Bool
  asked k = not (member_of s (suc (i * 64 + k))) || leb (suc (i * 64 + k)) a

  passes : (k : ℕ) → k < 64 → (digit word k ≡ true → suc (i * 64 + k) ≤ a) → asked k ≡ true
  unfolding asked
  passes k l f = go (member_of s (suc (i * 64 + k))) refl
    where
      go : (t : Bool) → member_of s (suc (i * 64 + k)) ≡ t → (not t || leb (suc (i * 64 + k)) a) ≡ true
      go true e = le-leb _ a (f (sym (member_at s i k hi l) ∙ e))
      go false e = refl

  clear_digits : ((k : ℕ) → k < 64 → asked k ≡ true) → (j : ℕ) → j < 64 → digit (word / 2 ^ (a - i * 64)) j ≡ false
  unfolding asked
  clear_digits f j l = is_false _ (λ e.
      let n = a - i * 64 in
      let d : digit word (n + j) ≡ true = sym (digit_shr word n j) ∙ e in
      let short : n + j < 64 = digit_short 64 (n + j) (h.fit i) d in
      let m : member_of s (suc (i * 64 + (n + j))) ≡ true = member_at s i (n + j) hi short ∙ d in
      let top : suc (i * 64 + (n + j)) ≤ a =
      leb-true _ a (ap (λ (t : Bool). not t || leb (suc (i * 64 + (n + j))) a) (sym m) ∙ f (n + j) short) in
      absurd (omega arith))

  pub word_within : ltb word (2 ^ (a - i * 64)) ≡ all_below 64 (λ k. not (member_of s (suc (i * 64 + k))) || leb (suc (i * 64 + k)) a)
  unfolding asked
  word_within =
      both (ltb word (2 ^ (a - i * 64))) (all_below 64 asked)
      (λ e. all_of 64 asked (λ k l. passes k l (λ d. by_order (suc (i * 64 + k)) a (λ q. q) (λ q.
      absurd (omega (arith, digit_short (a - i * 64) k (ltb-true word _ e) d))))))
      (λ e.
      let none : word / 2 ^ (a - i * 64) ≡ 0 =
      digits_ext 64 (word / 2 ^ (a - i * 64)) 0 (lt_of_le_fit) (lit< tt) (λ j l. clear_digits (all_at 64 asked e) j l ∙ sym (digit_none j)) in
      clear_shifted word (a - i * 64) ∙ eq-eqb _ _ none)
    where
      lt_of_le_fit : word / 2 ^ (a - i * 64) < 2 ^ 64
      lt_of_le_fit = omega (arith, shr_le word (a - i * 64), h.fit i)

-- the four words together
pub within_words : (s : IdSet) (a : ℕ) → Formed s
    → (ltb (get_or s.words 0 0) (2 ^ (a - 0)) && ltb (get_or s.words 1 0) (2 ^ (a - 64)) && ltb (get_or s.words 2 0) (2 ^ (a - 128))
    && ltb (get_or s.words 3 0) (2 ^ (a - 192))) ≡ within_of s a
unfolding within_of
within_words s a h =
    let f : ℕ → Bool = λ k. not (member_of s (suc k)) || leb (suc k) a in
    let w₀ : ltb (get_or s.words 0 0) (2 ^ (a - 0)) ≡ all_below 64 f =
    word_within s 0 a h (lit< tt) ∙ all_cong 64 (λ k. f (0 + k)) f (λ k l. ap f (zero-add k)) in
    let w₁ = word_within s 1 a h (lit< tt) in
    let w₂ = word_within s 2 a h (lit< tt) in
    let w₃ = word_within s 3 a h (lit< tt) in
    ap₂ ◌&&◌ (ap₂ ◌&&◌ (ap₂ ◌&&◌ w₀ w₁ ∙ sym (all_split 64 64 f)) w₂ ∙ sym (all_split 128 64 f)) w₃ ∙ sym (all_split 192 64 f)

-- ---- the larger of two words is clear where both are

larger_clear : (x y m : ℕ) → ltb (max x y) m ≡ (ltb x m && ltb y m)
larger_clear x y m =
    both (ltb (max x y) m) (ltb x m && ltb y m)
    (λ e. let h = ltb-true (max x y) m e in ap₂ ◌&&◌ (lt-ltb x m (omega arith)) (lt-ltb y m (omega arith)))
    (λ e.
    let hx = ltb-true x m (and_left (ltb x m) (ltb y m) e) in
    let hy = ltb-true y m (and_right (ltb x m) (ltb y m) e) in
    lt-ltb (max x y) m (omega arith))

pub larger_formed : {s t : IdSet} → Formed s → Formed t → Formed (larger_of s t)
unfolding larger_of
larger_formed {s} {t} hs ht = formed_words (fits 0) (fits 1) (fits 2) (fits 3)
  where
    fits : (i : ℕ) → larger_at s t i < 2 ^ 64
    fits i = omega (arith, hs.fit i, ht.fit i)

pub within_larger : (s t : IdSet) (a : ℕ) → Formed s → Formed t → within_of (larger_of s t) a ≡ (within_of s a && within_of t a)
unfolding larger_of
within_larger s t a hs ht =
    sym (within_words (larger_of s t) a (larger_formed hs ht)) ∙ rw (← within_words s a hs, ← within_words t a ht) (simp (larger_clear, reorder))

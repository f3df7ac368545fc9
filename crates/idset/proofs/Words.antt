-- What the code does to a word, as what that does to the members.
-- Assumes nothing.
use mathlib.Core.Path.{◌≡◌, refl, sym, ap, ◌∙◌}
use mathlib.Core.Bool.{Bool, true, false, not, cond, ◌&&◌, ◌||◌}
use Prim.Native.Nat.{ℕ, ◌-◌, ◌*◌, ◌/◌, ◌%◌, ◌^◌, ◌≤◌, ◌<◌}
use native.Mathlib.Nat.{lt_of_le_of_lt}
use native.Mathlib.Omega.{arith}
use lib.Dec.{eqb, lit<}
use lib.ListN.{get_or}
use lib.Pow.{shl_exact}
use lib.Bits.{bit_and, bit_or, and_mask, and_le_l, or_lt}
use Rattle.std.specs.Prelude.{Option, Some, None}
use Rattle.std.proofs.lemmas.Option.{none-some, some_pair_parts}
use Rattle.basics.specs.Pick.{when}
use Rattle.idset.specs.declared.IdSet.{IdSet}
use Rattle.idset.specs.Members.{digit, is_id, place_of, member_of, with_of, without_of}
use Rattle.idset.proofs.Digits.{digit_or, digit_and, digit_not, digit_power}
use Rattle.idset.proofs.Members.{Formed, id_true, id_low, id_high, no_member, with_none, without_none, set_of_cong, put, put_eq}

-- the word and the digit of an id
abbrev pub word_in : IdSet → ℕ → ℕ
word_in s a = get_or s.words ((a - 1) / 64) 0

abbrev pub place : ℕ → ℕ
place a = (a - 1) % 64

-- `1 << place`
abbrev pub bit : ℕ → ℕ
bit a = (1 * 2 ^ place a) % 2 ^ 64

bit_is : (a : ℕ) → bit a ≡ 1 * 2 ^ place a
bit_is a = shl_exact 1 (place a) 64 (lit< tt) (omega arith)

bit_lt : (a : ℕ) → bit a < 2 ^ 64
bit_lt a = omega arith

bit_digit : (a k : ℕ) → digit (bit a) k ≡ eqb k (place a)
bit_digit a k = ap (λ (x : ℕ). digit x k) (bit_is a) ∙ digit_power (place a) k

pub has_word : (s : IdSet) (a : ℕ) → 1 ≤ a → a ≤ 256 → eqb (bit_and (word_in s a / 2 ^ place a) 1) 1 ≡ member_of s a
unfolding member_of digit
has_word s a lo hi =
    ap (λ (x : ℕ). eqb x 1) (and_mask (word_in s a / 2 ^ place a) 1)
    ∙ ap (λ (t : Bool). t && digit (word_in s a) (place a)) (sym (id_true a lo hi))

pub with_word : (s : IdSet) (a : ℕ) → Formed s → 1 ≤ a → a ≤ 256 → put s ((a - 1) / 64) (bit_or (word_in s a) (bit a)) ≡ with_of s a
unfolding with_of
with_word s a h lo hi =
    put_eq s a (bit_or (word_in s a) (bit a)) true h lo hi (or_lt 64 (word_in s a) (bit a) (h.fit ((a - 1) / 64)) (bit_lt a))
    (λ k l. digit_or (word_in s a) (bit a) k ∙ ap (λ (t : Bool). digit (word_in s a) k || t) (bit_digit a k) ∙ turn (digit (word_in s a) k) (eqb k (place a)))
    ∙ set_of_cong (λ b e. as_or (eqb b a) (member_of s b))
  where
    turn : (x t : Bool) → (x || t) ≡ cond t true x
    turn true true = refl
    turn true false = refl
    turn false true = refl
    turn false false = refl

    as_or : (t x : Bool) → cond t true x ≡ (t || x)
    as_or true x = refl
    as_or false x = refl

pub without_word : (s : IdSet) (a : ℕ) → Formed s → 1 ≤ a → a ≤ 256 → put s ((a - 1) / 64) (bit_and (word_in s a) ((2 ^ 64 - 1) - bit a)) ≡ without_of s a
unfolding without_of
without_word s a h lo hi =
    put_eq s a (bit_and (word_in s a) ((2 ^ 64 - 1) - bit a)) false h lo hi (lt_of_le_of_lt (and_le_l (word_in s a) ((2 ^ 64 - 1) - bit a)) (h.fit ((a - 1) / 64)))
    (λ k l. digit_and (word_in s a) ((2 ^ 64 - 1) - bit a) k
    ∙ ap (λ (t : Bool). digit (word_in s a) k && t) (digit_not 64 (bit a) k (bit_lt a) l ∙ ap not (bit_digit a k)) ∙ turn (digit (word_in s a) k) (eqb k (place a)))
    ∙ set_of_cong (λ b e. as_and (eqb b a) (member_of s b))
  where
    turn : (x t : Bool) → (x && not t) ≡ cond t false x
    turn true true = refl
    turn true false = refl
    turn false true = refl
    turn false false = refl

    as_and : (t x : Bool) → cond t false x ≡ (not t && x)
    as_and true x = refl
    as_and false x = refl

-- ---- the same from the place that the code found, or from none

-- where id a has its mark
abbrev pub Placed : ℕ → ℕ → ℕ → Type 0
Placed a i k = ◌≡◌ {A = Option (ℕ × ℕ)} (Some (i, k)) (place_of a)

module _ (a : ℕ) where
  here : ℕ × ℕ
  here = ((a - 1) / 64, (a - 1) % 64)

  placed : {i k : ℕ} → Placed a i k → (1 ≤ a) × (a ≤ 256) × (i ≡ (a - 1) / 64) × (k ≡ (a - 1) % 64)
  unfolding place_of when here
  placed {i} {k} e = go (is_id a) refl e
    where
      go : (t : Bool) → is_id a ≡ t → ◌≡◌ {A = Option (ℕ × ℕ)} (Some (i, k)) (when t (Some here) None)
          → (1 ≤ a) × (a ≤ 256) × (i ≡ (a - 1) / 64) × (k ≡ (a - 1) % 64)
      go true t e = let p = some_pair_parts i ((a - 1) / 64) k ((a - 1) % 64) e in (id_low a t, id_high a t, p.0, p.1)
      go false t e = absurd (none-some (i, k) (sym e))

  nowhere : None ≡ place_of a → is_id a ≡ true → ⊥
  unfolding place_of when here
  nowhere e q = none-some here (e ∙ ap (λ (t : Bool). when t (Some here) None) q)

-- o is what the search for a's place answered
module _ (s : IdSet) (a : ℕ) {o : Option (ℕ × ℕ)} (found : o ≡ place_of a) where
  pub has_at : {i k : ℕ} → o ≡ Some (i, k) → eqb (bit_and (get_or s.words i 0 / 2 ^ k) 1) 1 ≡ member_of s a
  has_at e = let p = placed a (sym e ∙ found) in rw (p.2, p.3) (has_word s a p.0 p.1)

  pub has_nowhere : o ≡ None → false ≡ member_of s a
  has_nowhere e = sym (no_member s a (nowhere a (sym e ∙ found)))

  pub with_at : {i k : ℕ} → Formed s → o ≡ Some (i, k) → put s i (bit_or (get_or s.words i 0) ((1 * 2 ^ k) % 2 ^ 64)) ≡ with_of s a
  with_at h e = let p = placed a (sym e ∙ found) in rw (p.2, p.3) (with_word s a h p.0 p.1)

  pub with_nowhere : Formed s → o ≡ None → s ≡ with_of s a
  with_nowhere h e = with_none s a h (nowhere a (sym e ∙ found))

  pub without_at : {i k : ℕ} → Formed s → o ≡ Some (i, k) → put s i (bit_and (get_or s.words i 0) ((2 ^ 64 - 1) - (1 * 2 ^ k) % 2 ^ 64)) ≡ without_of s a
  without_at h e = let p = placed a (sym e ∙ found) in rw (p.2, p.3) (without_word s a h p.0 p.1)

  pub without_nowhere : Formed s → o ≡ None → s ≡ without_of s a
  without_nowhere h e = without_none s a h (nowhere a (sym e ∙ found))

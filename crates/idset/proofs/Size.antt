-- The laws of the count of members. Assumes nothing.
use mathlib.Core.Path.{◌≡◌, refl, sym, ap, ◌∙◌}
use mathlib.Core.Bool.{Bool, true, false, not, ◌&&◌, ◌||◌}
use Prim.Native.Nat.{ℕ, suc, ◌+◌, ◌*◌, ◌-◌, ◌≤◌, ◌<◌}
use native.Mathlib.Nat.{zero-add}
use native.Mathlib.Omega.{arith}
use lib.Count.{ones}
use lib.Dec.{eqb, eqb-suc-suc, lit<}
use lib.ListN.{get_or}
use borrow.Author.Tests.{eq-eqb, eqb-true}
use Rattle.basics.specs.Below.{count_below}
use Rattle.basics.proofs.Truth.{is_false}
use Rattle.basics.proofs.Count.{count_le, count_cong, count_split, count_zero, count_some, count_more}
use Rattle.idset.specs.declared.IdSet.{IdSet}
use Rattle.idset.specs.Members.{digit, is_id, member_of, with_of, without_of, size_of}
use Rattle.idset.proofs.Digits.{ones_count}
use Rattle.idset.proofs.Members.{Formed, id_true, id_low, id_high, member_id, member_at, member_with, member_without}

-- the ids of one word
count_word : (s : IdSet) (i : ℕ) → Formed s → i < 4 → count_below 64 (λ k. member_of s (suc (i * 64 + k))) ≡ ones (get_or s.words i 0)
count_word s i h l =
    count_cong 64 (λ k. member_of s (suc (i * 64 + k))) (digit (get_or s.words i 0)) (λ k m. member_at s i k l m)
    ∙ sym (ones_count 64 (get_or s.words i 0) (h.fit i))

pub size_words : (s : IdSet) → Formed s
    → ones (get_or s.words 0 0) + ones (get_or s.words 1 0) + ones (get_or s.words 2 0) + ones (get_or s.words 3 0) ≡ size_of s
unfolding size_of
size_words s h =
    let q : ℕ → Bool = λ k. member_of s (suc k) in
    let w₀ : count_below 64 q ≡ ones (get_or s.words 0 0) =
    count_cong 64 q (λ k. member_of s (suc (0 * 64 + k))) (λ k m. ap q (sym (zero-add k))) ∙ count_word s 0 h (lit< tt) in
    let w₁ = count_word s 1 h (lit< tt) in
    let w₂ = count_word s 2 h (lit< tt) in
    let w₃ = count_word s 3 h (lit< tt) in
    let a₁ : count_below 128 q ≡ count_below 64 q + count_below 64 (λ k. q (64 + k)) = count_split 64 64 q in
    let a₂ : count_below 192 q ≡ count_below 128 q + count_below 64 (λ k. q (128 + k)) = count_split 128 64 q in
    let a₃ : count_below 256 q ≡ count_below 192 q + count_below 64 (λ k. q (192 + k)) = count_split 192 64 q in
    omega arith

pub size_le : (s : IdSet) → size_of s ≤ 256
unfolding size_of
size_le s = count_le 256 (λ k. member_of s (suc k))

pub size_none : (s : IdSet) → ((b : ℕ) → member_of s b ≡ false) → size_of s ≡ 0
unfolding size_of
size_none s f = count_zero 256 (λ k. member_of s (suc k)) (λ k h. f (suc k))

-- an id from its predecessor
pub pred_id : {b : ℕ} → 1 ≤ b → suc (b - 1) ≡ b
pred_id h = omega arith

pub size_some : (s : IdSet) (b : ℕ) → member_of s b ≡ true → 0 < size_of s
unfolding size_of
size_some s b e =
    let lo = id_low b (member_id s b e) in
    let hi = id_high b (member_id s b e) in
    count_some 256 (λ k. member_of s (suc k)) (b - 1) (omega arith) (ap (member_of s) (pred_id lo) ∙ e)

pub size_zero : (s : IdSet) → size_of s ≡ 0 → (b : ℕ) → member_of s b ≡ false
size_zero s z b = is_false (member_of s b) (λ e. omega (arith, size_some s b e))

-- t is s, and a besides
pub size_more : (s t : IdSet) (a : ℕ) → is_id a ≡ true → member_of s a ≡ false → ((b : ℕ) → is_id b ≡ true → member_of t b ≡ (eqb b a || member_of s b)) → size_of t ≡ suc (size_of s)
unfolding size_of
size_more s t a ha e f =
    let lo = id_low a ha in
    let hi = id_high a ha in
    count_more 256 (λ k. member_of s (suc k)) (λ k. member_of t (suc k)) (a - 1) (omega arith) (ap (member_of s) (pred_id lo) ∙ e) (λ k l.
    f (suc k) (id_true (suc k) (omega arith) l)
    ∙ ap (λ (x : Bool). x || member_of s (suc k)) (ap (eqb (suc k)) (sym (pred_id lo)) ∙ eqb-suc-suc k (a - 1)))

pub size_with : (s : IdSet) (a : ℕ) → is_id a ≡ true → member_of s a ≡ false → size_of (with_of s a) ≡ suc (size_of s)
size_with s a ha e = size_more s (with_of s a) a ha e (λ b hb. member_with s a b ∙ ap (λ (t : Bool). t && (eqb b a || member_of s b)) hb)

pub size_without : (s : IdSet) (a : ℕ) → member_of s a ≡ true → size_of s ≡ suc (size_of (without_of s a))
size_without s a e =
    size_more (without_of s a) s a (member_id s a e) (member_without s a a ∙ ap (λ (t : Bool). not t && member_of s a) (eq-eqb a a refl)) (λ b hb.
    back b (eqb b a) refl ∙ ap (λ (t : Bool). eqb b a || t) (sym (member_without s a b)))
  where
    back : (b : ℕ) (t : Bool) → eqb b a ≡ t → member_of s b ≡ (t || (not t && member_of s b))
    back b true q = ap (member_of s) (eqb-true b a q) ∙ e
    back b false q = refl

-- Laws of a list written into a table, of a table's parts, and of a list repeated. Assumes nothing.
use Rattle.std.proofs.Common.{◌≡◌, ℕ, zero, suc, ◌+◌, ◌*◌, ◌-◌, ◌≤◌, ◌<◌, List, [], ◌∷◌, ◌++◌, length, set, take, drop, refl, ap, sym, ◌∙◌, arith, add-one, length-append, length-drop, append_assoc}
use Rattle.std.proofs.lemmas.List.{append-nil, length-take-le, take-set-le, take_at, drop_at, drop-take, drop-drop, drop_all, take_rest, set_past}
use Rattle.std.proofs.lemmas.List.Edits.{sets, sets-eq}
use Rattle.std.proofs.Math.Seq.{length-sets}
use Rattle.std.specs.List.{repeat, slice_range, copy_within}
use borrow.Rule.Slice.PartMut.{put_mid}
use native.Mathlib.Nat.{zero-mul, suc-mul, mul-zero, mul-le-mul_right}
use Rattle.tables.specs.Write.{write_at}

pub write_none : (t : List ℕ) (k : ℕ) → write_at t k [] ≡ t
unfolding write_at
write_none t k = refl

pub write_one : (t : List ℕ) (k x : ℕ) → write_at t k (x ∷ []) ≡ set t k x
unfolding write_at
write_one t k x = refl

pub write_cons : (t : List ℕ) (k x : ℕ) (l : List ℕ) → write_at t k (x ∷ l) ≡ write_at (set t k x) (k + 1) l
unfolding write_at
write_cons t k x l = refl

pub write_append : (t : List ℕ) (k : ℕ) (a b : List ℕ) → write_at t k (a ++ b) ≡ write_at (write_at t k a) (k + length a) b
unfolding write_at
write_append t k [] b = let e : k + 0 ≡ k = omega arith in rw e
write_append t k (x ∷ a) b = let e : k + suc (length a) ≡ k + 1 + length a = omega arith in rw e (write_append (set t k x) (k + 1) a b)

-- the library's word for the same writes
write_sets : (t : List ℕ) (k : ℕ) (l : List ℕ) → write_at t k l ≡ sets t k l
unfolding write_at
write_sets t k [] = refl
write_sets t k (x ∷ l) = rw (add-one k) (write_sets (set t k x) (suc k) l)

pub write_length : (t : List ℕ) (k : ℕ) (l : List ℕ) → length (write_at t k l) ≡ length t
write_length t k l = rw (write_sets t k l) (length-sets t k l)

-- the table in three parts
pub write_parts : (t : List ℕ) (k : ℕ) (l : List ℕ) → k + length l ≤ length t → write_at t k l ≡ take k t ++ (l ++ drop (k + length l) t)
write_parts t k l h = write_sets t k l ∙ (sets-eq l t k h ∙ append_assoc (take k t) l (drop (k + length l) t))

pub write_front : (t l : List ℕ) → length l ≤ length t → write_at t 0 l ≡ l ++ drop (length l) t
write_front t l h = let e : 0 + length l ≡ length l = omega arith in write_parts t 0 l (omega arith) ∙ rw e

-- written at the start of `t[k..]`
pub write_rest : (t u : List ℕ) (k : ℕ) (l : List ℕ) → k + length l ≤ length t → u ≡ write_at (take (length t - k) (drop k t)) 0 l → put_mid k (length t - k) t u ≡ write_at t k l
write_rest t u k l h e =
    let room : length l ≤ length (drop k t) = simp length-drop (omega arith) in
    let written : u ≡ l ++ drop (k + length l) t = rw take_rest at e ∙ (write_front (drop k t) l room ∙ ap (λ (r : List ℕ). l ++ r) (drop-drop (length l) k t)) in
    let past : drop (length t - k) (drop k t) ≡ [] = drop_all (length t - k) (drop k t) (simp length-drop (omega arith)) in
    rw (past, append-nil u, written) (sym (write_parts t k l h))

pub write_beyond : (t : List ℕ) (k : ℕ) (l : List ℕ) → length t ≤ k → write_at t k l ≡ t
unfolding write_at
write_beyond t k [] h = refl
write_beyond t k (x ∷ l) h = rw (set_past t k x h) (write_beyond t (k + 1) l (omega arith))

-- ---- parts

-- entries copied to a place
write_copied : (t : List ℕ) (i m to : ℕ) → i + m ≤ length t → to + m ≤ length t → copy_within t i (i + m) to ≡ write_at t to (take m (drop i t))
write_copied t i m to h w =
    let n : i + m - i ≡ m = omega arith in
    let e : length (take m (drop i t)) ≡ m = length-take-le m (drop i t) (simp length-drop (omega arith)) in
    rw n (append_assoc (take to t) (take m (drop i t)) (drop (to + m) t) ∙ sym (write_parts t to (take m (drop i t)) (omega arith) ∙ rw e))

write_below : (t : List ℕ) (k : ℕ) (l : List ℕ) (n : ℕ) → n ≤ k → take n (write_at t k l) ≡ take n t
unfolding write_at
write_below t k [] n h = refl
write_below t k (x ∷ l) n h = write_below (set t k x) (k + 1) l n (omega arith) ∙ take-set-le n t k x h

pub part_kept : (t : List ℕ) (k m to : ℕ) (l : List ℕ) → k + m ≤ to → take m (drop k (write_at t to l)) ≡ take m (drop k t)
part_kept t k m to l h = sym (drop-take k m (write_at t to l)) ∙ (ap (drop k) (write_below t to l (k + m) h) ∙ drop-take k m t)

pub part_written : (t : List ℕ) (k : ℕ) (l : List ℕ) → k + length l ≤ length t → take (length l) (drop k (write_at t k l)) ≡ l
part_written t k l h =
    let e : length (take k t) ≡ k = length-take-le k t (omega arith) in
    rw (write_parts t k l h, drop_at (take k t) (l ++ drop (k + length l) t) k e) (take_at l (drop (k + length l) t) (length l) refl)

-- ---- a list repeated

pub repeat_last : (n : ℕ) (l : List ℕ) → repeat (suc n) l ≡ repeat n l ++ l
repeat_last zero l = append-nil l
repeat_last (suc n) l = ap (λ (r : List ℕ). l ++ r) (repeat_last n l) ∙ sym (append_assoc l (repeat n l) l)

pub repeat_length : (n : ℕ) (l : List ℕ) → length (repeat n l) ≡ n * length l
repeat_length zero l = sym (zero-mul (length l))
repeat_length (suc n) l = length-append l (repeat n l) ∙ omega (arith, repeat_length n l, suc-mul n (length l))

-- ---- the loop that repeats a part: after k turns, counted from 1, it stands there k times

module _ (t : List ℕ) (i m : ℕ) where
  pub repeat_first : t ≡ write_at t (i + m) (repeat 0 (slice_range t i (i + m)))
  repeat_first = sym (write_none t (i + m))

  pub repeat_on : (w u : List ℕ) (k n : ℕ) → 1 ≤ k → k < n → i + n * m ≤ length t → w ≡ write_at t (i + m) (repeat (k - 1) (slice_range t i (i + m))) → u ≡ copy_within w i (i + m) (i + k * m)
      → u ≡ write_at t (i + m) (repeat (k + 1 - 1) (slice_range t i (i + m)))
  repeat_on w u zero n h l room e q = absurd (omega arith)
  repeat_on w u (suc k) n h l room e q =
      let P = slice_range t i (i + m) in
      let cut : i + m - i ≡ m = omega arith in
      let so : suc k - 1 ≡ k = omega arith in
      let next : suc k + 1 - 1 ≡ suc k = omega arith in
      let more : suc k * m + m ≤ n * m = omega (arith, mul-le-mul_right {m = suc (suc k)} {n = n} m (omega arith), suc-mul (suc k) m) in
      let long : length w ≡ length t = ap length e ∙ write_length t (i + m) (repeat (suc k - 1) P) in
      let kept : take m (drop i w) ≡ P = rw (e, cut) (part_kept t i m (i + m) (repeat (suc k - 1) (take m (drop i t))) (omega arith)) in
      let size : length P ≡ m = rw cut (length-take-le m (drop i t) (simp length-drop (omega arith))) in
      let place : i + suc k * m ≡ i + m + length (repeat k P) = omega (arith, repeat_length k P, ap (λ (x : ℕ). k * x) size, suc-mul k m) in
      q ∙ (write_copied w i m (i + suc k * m) (omega arith) (omega arith)
      ∙ (rw (kept, place, next, e, so, repeat_last k P) (sym (write_append t (i + m) (repeat k P) P))))

  pub repeat_none : (n : ℕ) → m ≡ 0 → (i ≡ i + n * m) × (t ≡ write_at t (i + m) (repeat (n - 1) (slice_range t i (i + m))))
  repeat_none n e =
      let cut : i + m - i ≡ 0 = omega arith in
      rw cut (omega (arith, ap (λ (x : ℕ). n * x) e, mul-zero n), rw (nothing (n - 1)) (sym (write_none t (i + m))))
    where
      nothing : (n : ℕ) → repeat {A = ℕ} n [] ≡ []
      nothing zero = refl
      nothing (suc n) = nothing n

-- Laws of a text's lines: where each ends, and that it has at least a byte. Assumes nothing.
use Rattle.std.proofs.Common.{◌≡◌, ℕ, ◌+◌, ◌≤◌, ◌<◌, List, length, drop, Bool, true, false, not, eqb, ltb, cond, Option, Some, None, unwrap_or, refl, arith, length-drop}
use Rattle.std.proofs.lemmas.List.Sums.{prefix_len-le-length}
use Rattle.std.specs.List.{position, position_or_len}
use borrow.Author.Tests.{ltb-true, ltb-false, le-ltb}
use Rattle.basics.specs.Pick.{when}
use Rattle.basics.proofs.Picks.{when_both}
use Rattle.grammar.specs.Line.{stop_of, after_of}

-- the place that `position` finds, or the length
position_or : (p : ℕ → Bool) (xs : List ℕ) → unwrap_or (position p xs) (length xs) ≡ position_or_len p xs
position_or p xs = by (ltb (position_or_len p xs) (length xs)) refl
  where
    by : (t : Bool) → ltb (position_or_len p xs) (length xs) ≡ t → unwrap_or (cond t (Some (position_or_len p xs)) None) (length xs) ≡ position_or_len p xs
    by true e = refl
    by false e = omega (arith, ltb-false (position_or_len p xs) (length xs) e, prefix_len-le-length (λ b. not (p b)) xs)

pub stop_of_within : (s : List ℕ) (i : ℕ) → i ≤ length s → (i ≤ stop_of s i) × (stop_of s i ≤ length s)
unfolding stop_of
stop_of_within s i h = omega (arith, prefix_len-le-length (λ b. not (eqb b 10)) (drop i s), length-drop i s)

-- where the newline is among the bytes from a place on
pub stop_found : (s rest : List ℕ) (i : ℕ) (r : Option ℕ) (k : ℕ) → rest ≡ drop i s → r ≡ position (λ b. eqb b 10) rest → k ≡ unwrap_or r (length rest) → i + k ≡ stop_of s i
unfolding stop_of
stop_found s rest i r k e p q = rw (q, p, position_or (λ b. eqb b 10) rest, e)

module _ (s : List ℕ) (i : ℕ) where
  pub after_more : i < length s → i < after_of s i
  unfolding after_of
  after_more h =
      let w = stop_of_within s i (omega arith) in
      when_both (λ (r : ℕ). i < r) (ltb (stop_of s i) (length s)) _ _ (λ e. omega arith) (λ e. omega (arith, ltb-false (stop_of s i) (length s) e))

  pub after_within : i ≤ length s → after_of s i ≤ length s
  unfolding after_of
  after_within h =
      let w = stop_of_within s i h in
      when_both (λ (r : ℕ). r ≤ length s) (ltb (stop_of s i) (length s)) _ _ (λ e. omega (arith, ltb-true (stop_of s i) (length s) e)) (λ e. omega arith)

  pub after_from : i ≤ after_of s i
  unfolding after_of stop_of
  after_from = when_both (λ (r : ℕ). i ≤ r) (ltb (stop_of s i) (length s)) _ _ (λ e. omega arith) (λ e. omega arith)

pub after_end : (s : List ℕ) → after_of s (length s) ≡ length s
unfolding after_of when
after_end s =
    let w = stop_of_within s (length s) (omega arith) in
    let e : stop_of s (length s) ≡ length s = omega arith in
    rw (e, le-ltb (length s) (length s) (omega arith))

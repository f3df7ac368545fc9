-- What a line's turn is, in the words of the calls' answers. Assumes nothing.
use Prim.Native.Nat.{ℕ, suc, ◌-◌, ◌≤◌, ◌<◌}
use native.Mathlib.Omega.{arith}
use mathlib.Core.Path.{◌≡◌, refl, ap, sym, ◌∙◌}
use mathlib.Core.Logic.{◌⊎◌, inl, inr}
use mathlib.Core.List.{List, [], ◌∷◌}
use lib.ListN.{length, take, drop, replicate, length-replicate}
use lib.Seq.{take-append_seam}
use borrow.Author.Tests.{lt-ltb, le-ltb}
use Rattle.std.proofs.Common.{Option}
use Rattle.basics.specs.Pick.{when}
use Rattle.tables.specs.Write.{write_at}
use Rattle.tables.proofs.Laws.{write_none, write_length, write_front}
use Rattle.pool.specs.declared.Pool.{Pool}
use Rattle.pool.specs.declared.Outcome.{Outcome}
use Rattle.pool.specs.Answers.{Told, said, told}
use Rattle.grammar.specs.declared.Line.{Line}
use Rattle.grammar.specs.Line.{line_of, numbers_at}
use Rattle.grammar.proofs.Lawful.{numbers_few}
use Rattle.printed.specs.Printed.{line_for}
use Rattle.printed.proofs.Laws.{line_fits}
use Rattle.player.specs.declared.Turn.{Turn}
use Rattle.player.specs.Turns.{Deed, nothing, deed_of, deed_at, says, turn_of, turn_at, Shows}

-- an outcome whose line was written
pub line_shows : (k : ℕ) (o : Outcome) (list t : List ℕ) (n : ℕ) (u : List ℕ) → n ≡ length (line_for k (said o.answer) list) → u ≡ write_at t 0 (line_for k (said o.answer) list) → length list ≤ 256
    → Shows (says k (told o) list) (record { pool = o.pool; written = n }) t u
line_shows k o list t n u a b h = record {
  value = ap (λ (m : ℕ). record { pool = o.pool; written = m }) a;
  out_after = b;
  written_bound = omega (arith, a, line_fits k (said o.answer) list h);
}

-- the same, in other words for what the call told and for the list that it left
pub told_shows : (k : ℕ) (o : Outcome) (x : Told) (list y : List ℕ) {t u : List ℕ} {r : Turn} → told o ≡ x → list ≡ y → Shows (says k (told o) list) r t u → Shows (says k x y) r t u
told_shows k o x list y e f h = rw (← e, ← f) h

module _ (s : List ℕ) (at k : ℕ) (p : Pool) where
  -- where nothing is played
  still : (t : List ℕ) → turn_at s at k p ≡ turn_of nothing k p → Shows (turn_at s at k p) (record { pool = p; written = 0 }) t t
  still t e = rw e record { value = refl; out_after = sym (write_none t 0); written_bound = omega arith }

  pub outside_shows : (t : List ℕ) → (16384 < length s) ⊎ ((length s ≤ 16384) × (length s < at)) → Shows (turn_at s at k p) (record { pool = p; written = 0 }) t t
  unfolding turn_at when
  outside_shows t (inl h) = still t (rw (lt-ltb 16384 (length s) h))
  outside_shows t (inr h) = still t (rw (le-ltb 16384 (length s) h.0, lt-ltb (length s) at h.1))

  module _ (short : length s ≤ 16384) (near : at ≤ length s) (l m : Option Line) (e : l ≡ line_of s at) (g : l ≡ m) where
    at_deed : (d : Deed) → deed_of m (numbers_at s at) ≡ d → turn_at s at k p ≡ turn_of d k p
    unfolding turn_at deed_at when
    at_deed d f = rw (le-ltb 16384 (length s) short, le-ltb (length s) at near, ← e, g, f)

    pub other_shows : (t : List ℕ) → deed_of m (numbers_at s at) ≡ nothing → Shows (turn_at s at k p) (record { pool = p; written = 0 }) t t
    other_shows t f = still t (at_deed nothing f)

    pub deed_shows : (d : Deed) {r : Turn} {t u : List ℕ} → deed_of m (numbers_at s at) ≡ d → Shows (turn_of d k p) r t u → Shows (turn_at s at k p) r t u
    deed_shows d f h = rw (at_deed d f) h

    -- an outcome that is printed without a list
    pub plain_shows : (d : Deed) (o : Outcome) (x : Told) {r : Turn} {t u : List ℕ} → deed_of m (numbers_at s at) ≡ d → told o ≡ x → says k x [] ≡ turn_of d k p → Shows (says k (told o) []) r t u → Shows (turn_at s at k p) r t u
    plain_shows d o x f y h w = deed_shows d f (rw (← h, ← y) w)

-- the numbers of a line of a text that is not too long, written into 8,192 entries, and what stands after the first of them
module _ (s : List ℕ) (at n : ℕ) (array : List ℕ) (short : length s ≤ 16384) (near : at ≤ length s) (e : n ≡ length (numbers_at s at)) (w : array ≡ write_at (replicate 8192 0) 0 (numbers_at s at)) where
  numbers_fit : length (numbers_at s at) ≤ 8192
  numbers_fit = omega (arith, numbers_few s at near)

  pub numbers_within : n ≤ length array
  numbers_within = let z : length array ≡ 8192 = ap length w ∙ (write_length (replicate 8192 0) 0 (numbers_at s at) ∙ length-replicate {A = ℕ} 8192 0) in omega (arith, e, numbers_fit)

  pub numbers_after : 1 ≤ length (numbers_at s at) → take (n - 1) (drop 1 array) ≡ drop 1 (numbers_at s at)
  numbers_after h = rw (e, w) (after_first (replicate 8192 0) (numbers_at s at) h (omega (arith, numbers_fit, length-replicate {A = ℕ} 8192 0)))
    where
      after_first : (t l : List ℕ) → 1 ≤ length l → length l ≤ length t → take (length l - 1) (drop 1 (write_at t 0 l)) ≡ drop 1 l
      after_first t [] h f = absurd (omega arith)
      after_first t (x ∷ l) h f =
          let z : suc (length l) - 1 ≡ length l = omega arith in
          rw (z, write_front t (x ∷ l) f) (take-append_seam l (drop (suc (length l)) t))

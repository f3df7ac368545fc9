-- What is still to be written: the loops and the readers that write a list part by part go by it. Assumes nothing.
use Prim.Native.Nat.{ℕ, ◌+◌, ◌≤◌}
use native.Mathlib.Omega.{arith}
use mathlib.Core.Path.{◌≡◌, refl, ap, sym, ◌∙◌}
use mathlib.Core.List.{List, [], ◌++◌}
use lib.ListN.{length, length-append}
use Rattle.tables.specs.Write.{write_at}
use Rattle.tables.proofs.Laws.{write_none, write_append, write_length}

-- in the table t from place k on the list l, as in t₀ from k₀ on the list l₀
pub record Left (t₀ : List ℕ) (k₀ : ℕ) (l₀ t : List ℕ) (k : ℕ) (l : List ℕ) : Type 0 where
  pub place : k + length l ≡ k₀ + length l₀
  pub wide : length t ≡ length t₀
  pub bytes : write_at t k l ≡ write_at t₀ k₀ l₀

pub left_first_lem : (t : List ℕ) (k : ℕ) (l : List ℕ) → Left t k l t k l
left_first_lem t k l = record { place = refl; wide = refl; bytes = refl }

module _ (t₀ : List ℕ) (k₀ : ℕ) (l₀ t : List ℕ) (k : ℕ) (l : List ℕ) (h : Left t₀ k₀ l₀ t k l) where
  pub left_room : (a b : List ℕ) → l ≡ a ++ b → k₀ + length l₀ ≤ length t₀ → k + length a ≤ length t
  left_room a b e r = omega (arith, h.place, h.wide, ap length e, length-append a b)

  pub left_on : (a b w : List ℕ) (r : ℕ) → l ≡ a ++ b → r ≡ k + length a → w ≡ write_at t k a → Left t₀ k₀ l₀ w r b
  left_on a b w r e p q = record {
    place = omega (arith, h.place, ap length e, length-append a b);
    wide = rw q (write_length t k a ∙ h.wide);
    bytes = rw (q, p) (sym (write_append t k a b) ∙ (rw e at h.bytes));
  }

  pub left_done : l ≡ [] → (k ≡ k₀ + length l₀) × (t ≡ write_at t₀ k₀ l₀)
  left_done e = (omega (arith, h.place, ap length e), sym (write_none t k) ∙ (rw e at h.bytes))

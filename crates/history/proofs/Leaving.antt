-- The number of leaving buffers: as many as the slots and the sets hold. Assumes nothing.
use mathlib.Core.Path.{◌≡◌, sym, ap₂, ◌∙◌}
use mathlib.Core.Bool.{true, not, ◌&&◌}
use Prim.Native.Nat.{ℕ, suc, ◌+◌, ◌≤◌, ◌<◌}
use native.Mathlib.Omega.{arith}
use lib.Dec.{eqb, leb, ltb}
use borrow.Author.Tests.{leb-true, ltb-true, eqb-true, ne_eqb}
use Rattle.basics.specs.Below.{one, count_below}
use Rattle.basics.proofs.All.{all_at}
use Rattle.basics.proofs.Count.{count_zero}
use Rattle.basics.proofs.Truth.{and_right, or_cases, by_order, is_false}
use Rattle.idset.specs.Members.{member_of, size_of, within_of}
use Rattle.idset.proofs.Within.{within_true}
use Rattle.pool.specs.declared.Pool.{Pool}
use Rattle.pool.specs.Record.{posted_at, slot_at, state_of, worker_at, set_at}
use Rattle.pool.specs.Sound.{buffers_beyond, guard_ids, worker_ids, sound_of}
use Rattle.pool.proofs.Parts.{parts, sizes_of}
use Rattle.history.specs.Counts.{in_slots, in_sets}
use Rattle.history.proofs.Placed.{Placed}
use Rattle.history.proofs.Sums.{sum_cong, sum_parts, sum_ones, sum_swap, count_one}

abbrev pub leaving_number : Pool → ℕ
leaving_number p = count_below 256 (λ k. eqb (state_of p (suc k)) 2)

module _ (p : Pool) (sound : sound_of p ≡ true) where
  -- ---- no id above B is stored

  slot_most : (i : ℕ) → i < 32 → (slot_at p i).id ≤ p.b
  slot_most i l = leb-true _ _ (and_right (leb (posted_at p i) p.b) (leb (slot_at p i).id p.b) (all_at 32 (guard_ids p) (parts sound).guard_ids_lem i l))

  pub member_most : (k : ℕ) → k < 8 → (id : ℕ) → member_of (set_at p k) id ≡ true → id ≤ p.b
  member_most k l =
      let x = worker_at p k in
      within_true (set_at p k) p.b
      (and_right (leb x.v p.b && leb x.h.id p.b) (within_of (set_at p k) p.b)
      (all_at 8 (worker_ids p) (parts sound).worker_ids_lem k l))

  free_beyond : (k : ℕ) → k < 256 → p.b ≤ k → state_of p (suc k) ≡ 0
  free_beyond k l beyond =
      or_cases (ltb k p.b) (eqb (state_of p (suc k)) 0) (all_at 256 (buffers_beyond p) (parts sound).buffers_beyond_lem k l)
      (λ e. absurd (omega (arith, ltb-true k p.b e)))
      (eqb-true (state_of p (suc k)) 0)

  -- ---- so the places of all 256 ids are as many as are wanted

  module _ (a : Placed p) where
    places_all : (k : ℕ) → k < 256 → one (eqb (state_of p (suc k)) 2)
        ≡ count_below 32 (λ i. eqb (slot_at p i).id (suc k)) + count_below 8 (λ j. member_of (set_at p j) (suc k))
    places_all k l =
        by_order p.b k
        (λ beyond.
        rw (free_beyond k l beyond)
        (sym
        (ap₂ ◌+◌
        (count_zero 32 (λ i. eqb (slot_at p i).id (suc k)) (λ i m. ne_eqb (slot_at p i).id (suc k) (λ e. omega (arith, slot_most i m))))
        (count_zero 8 (λ j. member_of (set_at p j) (suc k)) (λ j m. is_false (member_of (set_at p j) (suc k)) (λ e. omega (arith, member_most j m (suc k) e)))))))
        (λ below. sym (a.places (suc k) (omega arith) below))

    pub leaving_held : leaving_number p ≡ in_slots p + in_sets p
    unfolding in_slots in_sets size_of
    leaving_held =
        let most = (sizes_of p sound).b_most in
        sym (sum_ones 256 (λ k. eqb (state_of p (suc k)) 2))
        ∙ sum_parts 256 (λ k. one (eqb (state_of p (suc k)) 2)) _ _ places_all
        ∙ ap₂ ◌+◌
        (sum_swap 256 32 (λ i k. eqb (slot_at p i).id (suc k))
        ∙ sum_cong 32 _ (λ i. one (not (eqb (slot_at p i).id 0))) (λ i l. count_one 256 (slot_at p i).id (omega (arith, slot_most i l)))
        ∙ sum_ones 32 (λ i. not (eqb (slot_at p i).id 0)))
        (sum_swap 256 8 (λ j k. member_of (set_at p j) (suc k)))

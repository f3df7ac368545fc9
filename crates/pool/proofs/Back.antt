-- The hand-back: from what its loops made to label 32, and the lent list. Assumes nothing.
use mathlib.Core.Path.{◌≡◌, refl, ap}
use mathlib.Core.Bool.{Bool, true, false, not, ◌||◌}
use mathlib.Core.List.{List}
use Prim.Native.Nat.{ℕ, suc, ◌≤◌, ◌<◌}
use lib.Dec.{eqb}
use lib.ListN.{get_or}
use borrow.Author.Tests.{lt-ltb, le-ltb}
use Rattle.basics.specs.Pick.{when, unless}
use Rattle.basics.specs.Below.{all_below, table}
use Rattle.basics.proofs.All.{all_cong}
use Rattle.basics.proofs.Table.{table_cong}
use Rattle.idset.specs.Members.{member_of, size_of}
use Rattle.pool.specs.declared.Pool.{Pool}
use Rattle.pool.specs.Answers.{Check, fine, refuse, back}
use Rattle.pool.specs.Record.{state_of, set_at, with_states}
use Rattle.pool.specs.Steps.{ends, line32, hand_check, list_after_check}
use Rattle.pool.proofs.Scans.{entry}

-- ---- the lent list, by what the check found

module _ {c : Check} where
  pub list_is : {l : List ℕ} (old new : List ℕ) → c ≡ fine → l ≡ new → l ≡ list_after_check c old new
  unfolding list_after_check
  list_is old new e h = rw e h

  pub list_stops : {n place : ℕ} (old new : List ℕ) → c ≡ refuse n place → old ≡ list_after_check c old new
  unfolding list_after_check
  list_stops old new e = rw e

-- a list that no line writes
pub list_same : (c : Check) (l : List ℕ) → l ≡ list_after_check c l l
unfolding list_after_check
list_same fine l = refl
list_same (refuse n place) l = refl

-- ---- label 32

module _ (k : ℕ) (p : Pool) (room : ℕ) where
  abbrev leaving_now : ℕ → Bool
  leaving_now j = not (member_of (set_at p k) (suc j)) || eqb (get_or p.states j 0) 2

  all_leaving_lem : all_below 256 leaving_now ≡ all_below 256 (λ j. not (member_of (set_at p k) (suc j)) || eqb (state_of p (suc j)) 2)
  all_leaving_lem =
      all_cong 256 leaving_now (λ j. not (member_of (set_at p k) (suc j)) || eqb (state_of p (suc j)) 2) (λ j l.
      ap (λ (x : ℕ). not (member_of (set_at p k) (suc j)) || eqb x 2) (entry p j))

  module _ (t : Bool) (e : t ≡ all_below 256 leaving_now) where
    pub not_all_leaving : t ≡ false → hand_check k p room ≡ refuse 14 0
    unfolding hand_check unless
    not_all_leaving h = rw (← all_leaving_lem, ← e, h)

    module _ (h : t ≡ true) (n : ℕ) (f : n ≡ size_of (set_at p k)) where
      pub too_short : room < n → hand_check k p room ≡ refuse 13 0
      unfolding hand_check unless when
      too_short l = rw (← all_leaving_lem, ← e, h, ← f, lt-ltb room n l)

      pub hands : n ≤ room → hand_check k p room ≡ fine
      unfolding hand_check unless when
      hands l = rw (← all_leaving_lem, ← e, h, ← f, le-ltb room n l)

  pub handed_back_lem : (n : ℕ) (st : List ℕ) → n ≡ size_of (set_at p k) → st ≡ table 256 (λ j. when (member_of (set_at p k) (suc j)) 0 (get_or p.states j 0))
      → ends k (back n) (with_states st p) ≡ line32 k p
  handed_back_lem n st e h =
      rw (
        e,
        h,
        table_cong 256 (λ j. when (member_of (set_at p k) (suc j)) 0 (get_or p.states j 0)) (λ j. when (member_of (set_at p k) (suc j)) 0 (state_of p (suc j))) (λ j l.
            ap (λ (x : ℕ). when (member_of (set_at p k) (suc j)) 0 x) (entry p j)),
      )

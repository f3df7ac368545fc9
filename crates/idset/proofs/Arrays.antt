-- The sets of an array are formed, which owning the array tells. Assumes nothing.
use mathlib.Core.Path.{sym, subst}
use mathlib.Core.List.{List, [], ◌∷◌}
use Prim.Native.Nat.{ℕ, zero, suc, ◌<◌}
use native.Mathlib.Nat.{le_of_suc-le-suc, not-suc-le-zero}
use lib.ListN.{length, get_or}
use mir.Val.{Val}
use denote.Array.{Array, each}
use denote.Laws.{Is}
use denote.Shadow.{shadow}
use denote.Struct.Declared.{row}
use Rattle.idset.specs.declared.IdSet.{IdSet}
use Rattle.idset.specs.contracts.IdSet.{the_type}
use Rattle.idset.proofs.Members.{Formed, formed_of}

in_list : (xs : List IdSet) (us : List Val) (i : ℕ) → shadow (each IdSet (row the_type).own_val xs us)
    → i < length xs → Formed (get_or xs i (record { words = [] }))
in_list [] us i p h = absurd (not-suc-le-zero h)
in_list (x ∷ xs) [] i p h = absurd p
in_list (x ∷ xs) (u ∷ us) zero p h = search formed_of
in_list (x ∷ xs) (u ∷ us) (suc i) p h = in_list xs us i p.1 (le_of_suc-le-suc h)

-- of an array that a function is given: `c .. .good`
pub formed_each : (xs : List IdSet) (vs : List Val) (i n : ℕ) → Is (Array (row the_type) n) xs vs → i < n → Formed (get_or xs i (record { words = [] }))
formed_each xs vs i n p h = in_list xs p.0 i p.1.1 (subst (λ (k : ℕ). i < k) (sym p.1.0.1) h)

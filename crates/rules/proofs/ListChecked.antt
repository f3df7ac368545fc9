-- What is known of each entry of a give-up list once its check has found nothing. Assumes nothing.
use mathlib.Core.Path.{◌≡◌}
use mathlib.Core.Bool.{true, false}
use mathlib.Core.List.{List}
use Prim.Native.Nat.{ℕ, ◌≤◌, ◌<◌}
use lib.Dec.{eqb}
use lib.ListN.{length, get_or}
use borrow.Author.Tests.{eqb-true}
use Rattle.basics.specs.Among.{among_first, among}
use Rattle.basics.proofs.Picks.{when_back, unless_back}
use Rattle.basics.proofs.Any.{among_each}
use Rattle.basics.proofs.Different.{different_few}
use Rattle.pool.specs.declared.Pool.{Pool}
use Rattle.pool.specs.Answers.{fine, refuse}
use Rattle.pool.specs.Record.{state_of}
use Rattle.pool.specs.Checks.{id_check, entry_check, list_check}
use Rattle.pool.proofs.Firsts.{first_both, never, each_fine}
use Rattle.pool.proofs.Checked.{Buffer, buffer}

-- entry k names a buffer that is in service, and no earlier entry does
pub record Listed (p : Pool) (ids : List ℕ) (k : ℕ) : Type 0 where
  pub names : Buffer p (get_or ids k 0)
  pub in_service : state_of p (get_or ids k 0) ≡ 1
  pub first_named : among_first ids k (get_or ids k 0) ≡ false

module _ (p : Pool) (ids : List ℕ) where
  pub entry_listed : (k : ℕ) → entry_check p ids k ≡ fine → Listed p ids k
  unfolding entry_check
  entry_listed k h =
      let id = get_or ids k 0 in
      let a = first_both (id_check p id k) _ h in
      let b = when_back (among_first ids k id) fine (refuse 10 k) _ never a.1 in
      let c = unless_back (eqb (state_of p id) 1) fine (refuse 11 k) fine never b.1 in
      record { names = buffer p id k a.0; in_service = eqb-true _ _ c.0; first_named = b.0 }

  pub listed : (n : ℕ) → list_check p ids n ≡ fine → (k : ℕ) → k < n → Listed p ids k
  listed n h k l = entry_listed k (each_fine (entry_check p ids) n h k l)

  -- so of a list that is longer than B one of the first B + 1 entries is at fault
  pub listed_few : (n : ℕ) → list_check p ids n ≡ fine → n ≤ p.b
  listed_few n h = different_few ids p.b n (λ k l.
      let e = listed n h k l in
      record { some = e.names.some; most = e.names.most; first = e.first_named })

  pub listed_buffer : list_check p ids (length ids) ≡ fine → (id : ℕ) → among ids id ≡ true → Buffer p id
  listed_buffer h = among_each (Buffer p) ids (λ k l. (listed (length ids) h k l).names)

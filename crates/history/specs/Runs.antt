-- What is shown of every run, refused calls among its calls, from a record and its history; and of every run from a fresh pool.
use Rattle.std.specs.Prelude.{ℕ, ◌+◌, ◌≤◌, ◌≡◌, true, List, eqb}
use Rattle.basics.specs.Below.{one, count_below}
use Rattle.idset.specs.Members.{member_of}
use Rattle.pool.specs.declared.Pool.{Pool}
use Rattle.pool.specs.Record.{blank, state_of, slot_at, set_at}
use Rattle.pool.specs.Sound.{in_range, sound_of}
use Rattle.rules.specs.Calls.{Call, after, seen}
use Rattle.history.specs.Safe.{Safe}
use Rattle.history.specs.History.{History, history_after, fresh}
use Rattle.history.specs.Counts.{in_slots, in_sets}

-- in how many places buffer id is: free and in service by the history, slots and sets by the record
abbrev pub times_placed : Pool → History → ℕ → ℕ
times_placed p h id =
    one (eqb (h.states id) 0) + one (eqb (h.states id) 1)
    + count_below 32 (λ i. eqb (slot_at p i).id id) + count_below 8 (λ k. member_of (set_at p k) id)

-- demand 3 of a record p of w workers, g guards and b buffers, and its history
pub record Follows (w g b : ℕ) (p : Pool) (h : History) : Type 0 where
  pub sound : sound_of p ≡ true
  pub workers : p.w ≡ w
  pub guards : p.g ≡ g
  pub buffers : p.b ≡ b
  pub states : (id : ℕ) → 1 ≤ id → id ≤ b → state_of p id ≡ h.states id
  pub place : (id : ℕ) → 1 ≤ id → id ≤ b → times_placed p h id ≡ 1
  pub counts : h.given ≡ h.back + in_slots p + in_sets p
  pub safe : Safe p h

-- from a start, whatever is called
abbrev pub FollowsOn : Pool → History → Type 0
FollowsOn p h = (calls : List Call) → Follows p.w p.g p.b (after calls p) (history_after h (seen calls p))

abbrev pub EveryRun : Type 0
EveryRun = (w g b : ℕ) → in_range w g b ≡ true → FollowsOn (blank w g b) fresh

-- How many buffers were given up and handed back, by what the caller saw alone, a buffer counting each time; and how many a record holds.
use Rattle.std.specs.Prelude.{ℕ, zero, suc, ◌+◌, not, eqb, length}
use Rattle.basics.specs.Pick.{when}
use Rattle.basics.specs.Below.{count_below}
use Rattle.idset.specs.Members.{size_of}
use Rattle.pool.specs.declared.Pool.{Pool}
use Rattle.pool.specs.Answers.{Said}
use Rattle.pool.specs.Record.{slot_at, set_at}
use Rattle.rules.specs.Calls.{Call, hiring, firing, posting, giving_up, taking, asking, advancing}
use Rattle.history.specs.States.{is_accepted}

-- ---- what was seen

-- the buffers of an accepted give-up
unfoldable pub given_up_by : Call → Said → ℕ
given_up_by (hiring w) answer = 0
given_up_by (firing w g) answer = 0
given_up_by (posting w g b) answer = 0
given_up_by (giving_up w ids) answer = when (is_accepted answer) (length ids) 0
given_up_by (taking b) answer = 0
given_up_by (asking w b) answer = 0
given_up_by (advancing w out) answer = 0

-- ---- what a record holds

-- f 0 + f 1 + .. + f (n - 1)
unfoldable pub sum_below : ℕ → (ℕ → ℕ) → ℕ
sum_below zero f = 0
sum_below (suc n) f = sum_below n f + f n

-- the slots that hold a buffer
unfoldable pub in_slots : Pool → ℕ
in_slots p = count_below 32 (λ i. not (eqb (slot_at p i).id 0))

-- the members of all the sets
unfoldable pub in_sets : Pool → ℕ
in_sets p = sum_below 8 (λ k. size_of (set_at p k))

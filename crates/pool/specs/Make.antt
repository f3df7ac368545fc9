-- Making a pool: the fresh record of the counts, or refusal 1 and the all-zero record.
use Rattle.std.specs.Prelude.{ℕ, ◌<◌, ◌≡◌, false}
use Rattle.basics.specs.Pick.{unless}
use Rattle.idset.specs.Members.{member_of}
use Rattle.worker.specs.Registers.{no_slot, no_worker}
use Rattle.pool.specs.declared.Pool.{Pool}
use Rattle.pool.specs.Answers.{Told, answering, accepted, refused}
use Rattle.pool.specs.Record.{taken_at, employer_at, posted_at, slot_at, state_of, worker_at, set_at, blank}
use Rattle.pool.specs.Sound.{in_range}

unfoldable pub make_of : ℕ → ℕ → ℕ → Told
make_of w g b =
    unless (in_range w g b) (answering (refused 1 0) (blank 0 0 0))
    (answering accepted (blank w g b))

-- what the paper says of a fresh pool; the crate `rules` shows it of every pool that is made
pub record Fresh (w g b : ℕ) (p : Pool) : Type 0 where
  pub workers : p.w ≡ w
  pub guards : p.g ≡ g
  pub buffers : p.b ≡ b
  pub lowest : p.maxg ≡ 0
  pub untaken : (i : ℕ) → taken_at p i ≡ false
  pub unemployed : (i : ℕ) → employer_at p i ≡ 0
  pub unposted : (i : ℕ) → posted_at p i ≡ 0
  pub unused : (i : ℕ) → slot_at p i ≡ no_slot
  pub free : (id : ℕ) → state_of p id ≡ 0
  pub idle : (k : ℕ) → worker_at p k ≡ no_worker
  pub empty : (k id : ℕ) → k < 8 → member_of (set_at p k) id ≡ false

-- What a caller reads in refusals 21 to 25, by the record alone: the lowest rule that is broken, and in it the first at fault. It names the tests that
-- `Sound` asks of one guard, buffer or worker, and nothing of how they are put in order.
use Rattle.std.specs.Prelude.{◌≡◌, ◌↔◌, ◌⊎◌, Bool, true, false, ℕ, suc, ◌≤◌, ◌<◌}
use Rattle.pool.specs.declared.Pool.{Pool}
use Rattle.pool.specs.Answers.{Said, refuse, refused}
use Rattle.pool.specs.Sound.{counts_sound, guards_beyond, buffers_beyond, workers_beyond, employer_in, state_in, label_in, guard_ids, worker_ids, worker_registers, sound_check, sound_of}
use Rattle.pool.specs.Questions.{set_size_of, leaving_count_of, audit_of}
use Rattle.rules.specs.Calls.{Call, call}

-- ---- a rule's test, asked of each of count entries, of which entry k has the number no k

abbrev pub All : ℕ → (ℕ → Bool) → Type 0
All count test = (k : ℕ) → k < count → test k ≡ true

-- n is the rule, and place the lowest that fails it
pub record Lowest (rule count : ℕ) (no : ℕ → ℕ) (test : ℕ → Bool) (n place : ℕ) : Type 0 where
  pub number : n ≡ rule
  pub k : ℕ
  pub below : k < count
  pub at : place ≡ no k
  pub fails : test k ≡ false
  pub lower : All k test

abbrev pub Guards : (ℕ → Bool) → Type 0
Guards test = All 32 test

abbrev pub Buffers : (ℕ → Bool) → Type 0
Buffers test = All 256 test

abbrev pub Workers : (ℕ → Bool) → Type 0
Workers test = All 8 test

-- guards from 0 on, buffers and workers from 1 on
abbrev pub LowestGuard : ℕ → (ℕ → Bool) → ℕ → ℕ → Type 0
LowestGuard rule test n place = Lowest rule 32 (λ i. i) test n place

abbrev pub LowestBuffer : ℕ → (ℕ → Bool) → ℕ → ℕ → Type 0
LowestBuffer rule test n place = Lowest rule 256 suc test n place

abbrev pub LowestWorker : ℕ → (ℕ → Bool) → ℕ → ℕ → Type 0
LowestWorker rule test n place = Lowest rule 8 suc test n place

-- guards first, then buffers, then workers
abbrev pub FirstOf : ℕ → (ℕ → Bool) → (ℕ → Bool) → (ℕ → Bool) → ℕ → ℕ → Type 0
FirstOf rule guards buffers workers n place =
    LowestGuard rule guards n place ⊎ (Guards guards × (LowestBuffer rule buffers n place ⊎ (Buffers buffers × LowestWorker rule workers n place)))

-- ---- the rules: kept; and broken, with the number n and a place

abbrev pub Keeps21 : Pool → Type 0
Keeps21 p = counts_sound p ≡ true

abbrev pub Breaks21 : Pool → ℕ → ℕ → Type 0
Breaks21 p n place = (counts_sound p ≡ false) × (n ≡ 21) × (place ≡ 0)

abbrev pub Keeps22 : Pool → Type 0
Keeps22 p = Guards (guards_beyond p) × (Buffers (buffers_beyond p) × Workers (workers_beyond p))

abbrev pub Breaks22 : Pool → ℕ → ℕ → Type 0
Breaks22 p = FirstOf 22 (guards_beyond p) (buffers_beyond p) (workers_beyond p)

abbrev pub Keeps23 : Pool → Type 0
Keeps23 p = Guards (employer_in p) × (Buffers (state_in p) × Workers (label_in p))

abbrev pub Breaks23 : Pool → ℕ → ℕ → Type 0
Breaks23 p = FirstOf 23 (employer_in p) (state_in p) (label_in p)

abbrev pub Keeps24 : Pool → Type 0
Keeps24 p = Guards (guard_ids p) × Workers (worker_ids p)

abbrev pub Breaks24 : Pool → ℕ → ℕ → Type 0
Breaks24 p n place = LowestGuard 24 (guard_ids p) n place ⊎ (Guards (guard_ids p) × LowestWorker 24 (worker_ids p) n place)

abbrev pub Keeps25 : Pool → Type 0
Keeps25 p = Workers (worker_registers p)

abbrev pub Breaks25 : Pool → ℕ → ℕ → Type 0
Breaks25 p = LowestWorker 25 (worker_registers p)

-- a rule is broken first where those before it are kept
abbrev pub Breaks : Pool → ℕ → ℕ → Type 0
Breaks p n place =
    Breaks21 p n place
    ⊎ (Keeps21 p × (Breaks22 p n place
    ⊎ (Keeps22 p × (Breaks23 p n place
    ⊎ (Keeps23 p × (Breaks24 p n place
    ⊎ (Keeps24 p × Breaks25 p n place)))))))

-- ---- the sentences

-- in an answer, the numbers from 21 on stand for the rule that is broken first, and for nothing else
abbrev pub Names : Pool → Said → Type 0
Names p said = (n place : ℕ) → 21 ≤ n → (said ≡ refused n place) ↔ Breaks p n place

-- some rule is broken first, somewhere
pub record Unsound (p : Pool) : Type 0 where
  pub rule : ℕ
  pub place : ℕ
  pub breaks : Breaks p rule place

pub record UnsoundSentences : Type 0 where
  -- the test finds the broken rule, and a record is sound where none is
  pub test : (p : Pool) (n place : ℕ) → (sound_check p ≡ refuse n place) ↔ Breaks p n place
  pub sound : (p : Pool) → (sound_of p ≡ true) ↔ (Keeps21 p × (Keeps22 p × (Keeps23 p × (Keeps24 p × Keeps25 p))))
  pub unsound : (p : Pool) → (sound_of p ≡ false) ↔ Unsound p
  -- it is one rule at one place
  pub one : (p : Pool) (n place m at : ℕ) → Breaks p n place → Breaks p m at → (n ≡ m) × (place ≡ at)
  -- every call passes it on, and so do the questions
  pub calls : (c : Call) (p : Pool) → Names p (call c p).answer
  pub set_size : (p : Pool) (w : ℕ) → Names p (set_size_of p (record { 0 = w }))
  pub leaving_count : (p : Pool) → Names p (leaving_count_of p)
  pub audit : (p : Pool) → Names p (audit_of p)

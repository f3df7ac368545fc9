-- Sentences of the paper, each of what a caller sees and of the record as it stands: when a call is accepted, what it is refused for, what a question
-- answers. None names the definitions by which the calls are checked, so a wrong check is wrong here too.
use Rattle.std.specs.Prelude.{◌≡◌, ◌↔◌, ◌≢◌, true, List, ℕ, suc, ◌-◌, ◌≤◌, ◌<◌, eqb, length, get_or}
use Rattle.basics.specs.Below.{count_below}
use Rattle.idset.specs.Members.{member_of}
use Rattle.pool.specs.declared.Pool.{Pool}
use Rattle.pool.specs.Answers.{Said, accepted, yes, no, back, count, clear, fault, refused}
use Rattle.pool.specs.Record.{employer_at, posted_at, state_of, worker_at, set_at}
use Rattle.pool.specs.Sound.{sound_of}
use Rattle.pool.specs.Steps.{slot_here}
use Rattle.pool.specs.Questions.{places_of, set_size_of, leaving_count_of, audit_of}
use Rattle.rules.specs.Calls.{Call, hiring, firing, posting, giving_up, taking, asking, advancing, call}
use Rattle.rules.specs.Shaped.{Shaped}

abbrev pub answer : Call → Pool → Said
answer c p = (call c p).answer

-- ---- conditions

-- the record is sound, and w is one of its workers
pub record HasWorker (p : Pool) (w : ℕ) : Type 0 where
  pub sound : sound_of p ≡ true
  pub some : 1 ≤ w
  pub most : w ≤ p.w

-- and stands at label l; at 0 it is idle
pub record At (p : Pool) (w l : ℕ) : Type 0 where
  pub worker : HasWorker p w
  pub label : (worker_at p (w - 1)).label ≡ l

abbrev pub Idle : Pool → ℕ → Type 0
Idle p w = At p w 0

-- guard g is one of the pool's, and its employer is w
pub record Employs (p : Pool) (w g : ℕ) : Type 0 where
  pub below : g < p.g
  pub employer : employer_at p g ≡ w

-- an id from 1 to B
pub record IsBuffer (p : Pool) (b : ℕ) : Type 0 where
  pub some : 1 ≤ b
  pub most : b ≤ p.b

-- entry k of a give-up list: a buffer in service, and no earlier entry's
pub record MayLeave (p : Pool) (ids : List ℕ) (k : ℕ) : Type 0 where
  pub buffer : IsBuffer p (get_or ids k 0)
  pub in_service : state_of p (get_or ids k 0) ≡ 1
  pub unrepeated : (j : ℕ) → j < k → get_or ids j 0 ≢ get_or ids k 0

-- of worker k + 1: a member of its set that isn't leaving; or all are
pub record NotLeaving (p : Pool) (k : ℕ) : Type 0 where
  pub id : ℕ
  pub member : member_of (set_at p k) id ≡ true
  pub other : state_of p id ≢ 2

abbrev pub AllLeaving : Pool → ℕ → Type 0
AllLeaving p k = (id : ℕ) → member_of (set_at p k) id ≡ true → state_of p id ≡ 2

-- how many members it has
abbrev pub size : Pool → ℕ → ℕ
size p k = count_below 256 (λ j. member_of (set_at p k) (suc j))

-- worker w is to store to slot i: at 18, or at 28 where h's id is neither 0 nor v, and slot i equals h in both parts
pub data MayStore (p : Pool) (w : ℕ) : Type 0 where
  at_18 : At p w 18 → slot_here p (w - 1) ≡ (worker_at p (w - 1)).h → MayStore p w
  at_28 : At p w 28 → (worker_at p (w - 1)).h.id ≢ 0 → (worker_at p (w - 1)).h.id ≢ (worker_at p (w - 1)).v
      → slot_here p (w - 1) ≡ (worker_at p (w - 1)).h → MayStore p w

-- a buffer's places are as they should be: 1 if it is leaving, else 0
pub record WellPlaced (p : Pool) (id : ℕ) : Type 0 where
  pub leaving : state_of p id ≡ 2 → places_of p id ≡ 1
  pub other : state_of p id ≢ 2 → places_of p id ≡ 0

-- ---- begins

pub record BeginSentences : Type 0 where
  -- a hire needs an idle worker
  pub hire : (p : Pool) (w : ℕ) → (answer (hiring w) p ≡ accepted) ↔ Idle p w
  -- a fire needs its own guard, which is posted on nothing; 8 where it is posted
  pub fire : (p : Pool) (w g : ℕ) → (answer (firing w g) p ≡ accepted) ↔ (Idle p w × Employs p w g × (posted_at p g ≡ 0))
  pub fire_posted : (p : Pool) (w g : ℕ) → (answer (firing w g) p ≡ refused 8 0) ↔ (Idle p w × Employs p w g × (posted_at p g ≢ 0))
  -- a post needs its own guard, and 0 or a buffer
  pub post : (p : Pool) (w g b : ℕ) → (answer (posting w g b) p ≡ accepted) ↔ (Idle p w × Employs p w g × (b ≤ p.b))
  -- a give-up needs every listed buffer in service, and none listed twice
  pub give_up : (p : Pool) (w : ℕ) (ids : List ℕ)
      → (answer (giving_up w ids) p ≡ accepted) ↔ (Idle p w × ((k : ℕ) → k < length ids → MayLeave p ids k))
  -- a take needs a free buffer, which then is in service, the others as they were; 11 where it is not free
  pub take : (p : Pool) (b : ℕ) → (answer (taking b) p ≡ accepted) ↔ ((sound_of p ≡ true) × IsBuffer p b × (state_of p b ≡ 0))
  pub take_serves : (p : Pool) (b : ℕ) → Shaped p → answer (taking b) p ≡ accepted → state_of (call (taking b) p).pool b ≡ 1
  pub take_others : (p : Pool) (b id : ℕ) → 1 ≤ id → id ≢ b → state_of (call (taking b) p).pool id ≡ state_of p id
  pub take_not_free : (p : Pool) (b : ℕ) → (answer (taking b) p ≡ refused 11 0) ↔ ((sound_of p ≡ true) × IsBuffer p b × (state_of p b ≢ 0))
  -- an ask is answered yes exactly when the buffer is in service, and otherwise no; nothing changes
  pub ask_yes : (p : Pool) (w b : ℕ) → (answer (asking w b) p ≡ yes) ↔ (Idle p w × IsBuffer p b × (state_of p b ≡ 1))
  pub ask_no : (p : Pool) (w b : ℕ) → (answer (asking w b) p ≡ no) ↔ (Idle p w × IsBuffer p b × (state_of p b ≢ 1))
  pub ask_leaves : (p : Pool) (w b : ℕ) → (call (asking w b) p).pool ≡ p

-- ---- what an advance refuses at its labels

pub record AdvanceSentences : Type 0 where
  -- 12: a store to a slot whose version is the largest
  pub versions_used_up : (p : Pool) (w : ℕ) (out : List ℕ)
      → (answer (advancing w out) p ≡ refused 12 0) ↔ (MayStore p w × ((slot_here p (w - 1)).version ≡ 4294967295))
  -- 14: at 32 a member of the set isn't leaving, however long the lent list
  pub not_leaving : (p : Pool) (w : ℕ) (out : List ℕ) → (answer (advancing w out) p ≡ refused 14 0) ↔ (At p w 32 × NotLeaving p (w - 1))
  -- 13: all are leaving, and the lent list is shorter than the set
  pub list_too_short : (p : Pool) (w : ℕ) (out : List ℕ)
      → (answer (advancing w out) p ≡ refused 13 0) ↔ (At p w 32 × AllLeaving p (w - 1) × (length out < size p (w - 1)))
  -- and otherwise as many ids are handed back as the set has
  pub hands_back : (p : Pool) (w : ℕ) (out : List ℕ) → At p w 32 → AllLeaving p (w - 1) → size p (w - 1) ≤ length out
      → answer (advancing w out) p ≡ back (size p (w - 1))

-- ---- questions

pub record QuestionSentences : Type 0 where
  -- a set's size is the number of its members
  pub set_size : (p : Pool) (w : ℕ) → HasWorker p w → set_size_of p (record { 0 = w }) ≡ count (size p (w - 1))
  -- the leaving count is the number of buffers that are leaving
  pub leaving_count : (p : Pool) → sound_of p ≡ true → leaving_count_of p ≡ count (count_below 256 (λ k. eqb (state_of p (suc k)) 2))
  -- the audit is clear exactly when every buffer is placed as it should be
  pub audit_clear : (p : Pool) → (audit_of p ≡ clear) ↔ ((sound_of p ≡ true) × ((id : ℕ) → IsBuffer p id → WellPlaced p id))
  -- and otherwise names the lowest that is not, with its number of places
  pub audit_fault : (p : Pool) (id n : ℕ) → (audit_of p ≡ fault id n)
      ↔ ((sound_of p ≡ true) × IsBuffer p id × (places_of p id ≡ n) × (WellPlaced p id → ⊥)
      × ((lower : ℕ) → 1 ≤ lower → lower < id → WellPlaced p lower))

pub record Sentences : Type 0 where
  pub begins : BeginSentences
  pub advances : AdvanceSentences
  pub questions : QuestionSentences

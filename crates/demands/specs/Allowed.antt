-- What each public function of the engine asks of its caller, and which results it may come to: its contract, as the crate `pool` exports it with
-- the proof that the code meets it. Nothing here names a definition that a contract cites: a contract that says less allows more.
use Rattle.std.specs.Prelude.{ℕ, ◌≡◌, List, [], Result, ⊤}
use Rattle.std.specs.Borrow.{Bor, MutBor}
use contract.Lifetimes.{Lfts}
use Rattle.pool.specs.declared.WorkerNo.{WorkerNo}
use Rattle.pool.specs.declared.GuardNo.{GuardNo}
use Rattle.pool.specs.declared.BufferId.{BufferId}
use Rattle.pool.specs.declared.Pool.{Pool}
use Rattle.pool.specs.declared.Refusal.{Refusal}
use Rattle.pool.specs.declared.Refused.{Refused}
use Rattle.pool.specs.declared.Answer.{Answer}
use Rattle.pool.specs.declared.Outcome.{Outcome}
use Rattle.demands.specs.Promises.{MakePre, MakePost, BlankPre, BlankPost, SoundnessPre, SoundnessPost, HirePre, HirePost, FirePre, FirePost, PostPre, PostPost, GiveUpPre, GiveUpPost, TakePre, TakePost, AskPre, AskPost, AdvancePre, AdvancePost, SetSizePre, SetSizePost, LeavingCountPre, LeavingCountPost, AuditPre, AuditPost, NumberPre, NumberPost, FromPre, FromPost}
use Rattle.rules.specs.Calls.{Call, hiring, firing, posting, giving_up, taking, asking, advancing}

-- ---- the numbers that a call names

abbrev pub worker : ℕ → WorkerNo
worker w = record { 0 = w }

abbrev pub guard_no : ℕ → GuardNo
guard_no g = record { 0 = g }

abbrev pub buffer : ℕ → BufferId
buffer b = record { 0 = b }

-- ---- calls that hand back a record

-- a promise, of arguments and a result, that holds with some values of the parameters at the exit; no contract here speaks of those
abbrev Promised : {A R E : Type 0} → (A → R → E → Type 0) → A → R → Type 0
Promised {E} post a r = (at_exit : E) × post a r at_exit

-- an advance that is lent `before` and leaves `after` there, wherever the list stands and however long it is lent
pub record Advances (p : Pool) (w : WorkerNo) (before : List ℕ) (r : Outcome) (after : List ℕ) : Type 0 where
  pub lifetimes : Lfts 1
  pub lent : MutBor (List ℕ)
  pub at_exit : _
  pub allowed : AdvancePost lifetimes (p, (w, (lent, tt))) r at_exit
  pub lent_so : lent.now ≡ before
  pub left_so : at_exit.1.1.0.now ≡ after

pub record GivesUp (p : Pool) (w : WorkerNo) (ids : List ℕ) (r : Outcome) : Type 0 where
  pub lifetimes : Lfts 1
  pub lent : Bor (List ℕ)
  pub at_exit : _
  pub allowed : GiveUpPost lifetimes (p, (w, (lent, tt))) r at_exit
  pub lent_so : lent.now ≡ ids

-- the contract of call c, made on record p, allows outcome r and the lent list `list` afterwards; a call that is lent no list to write leaves none
pub data Allows (p : Pool) (r : Outcome) : Call → List ℕ → Type 0 where
  hires : (w : ℕ) → Promised (HirePost tt) (p, (worker w, tt)) r → Allows p r (hiring w) []
  fires : (w g : ℕ) → Promised (FirePost tt) (p, (worker w, (guard_no g, tt))) r → Allows p r (firing w g) []
  posts : (w g b : ℕ) → Promised (PostPost tt) (p, (worker w, (guard_no g, (buffer b, tt)))) r → Allows p r (posting w g b) []
  gives_up : (w : ℕ) (ids : List ℕ) → GivesUp p (worker w) ids r → Allows p r (giving_up w ids) []
  takes : (b : ℕ) → Promised (TakePost tt) (p, (buffer b, tt)) r → Allows p r (taking b) []
  asks : (w b : ℕ) → Promised (AskPost tt) (p, (worker w, (buffer b, tt))) r → Allows p r (asking w b) []
  advances : (w : ℕ) (out list : List ℕ) → Advances p (worker w) out r list → Allows p r (advancing w out) list

-- making, with W, G and B as they come
abbrev pub Makes : ℕ → ℕ → ℕ → Outcome → Type 0
Makes w g b r = Promised (MakePost tt) (w, (g, (b, tt))) r

-- ---- questions, which hand back only what they say

pub data Question : Type 0 where
  set_size : ℕ → Question
  leaving_count audit : Question

pub data Answers (p : Pool) (a : Answer) : Question → Type 0 where
  size_said : (w : ℕ) → Promised (SetSizePost tt) (p, (worker w, tt)) a → Answers p a (set_size w)
  count_said : Promised (LeavingCountPost tt) (p, tt) a → Answers p a leaving_count
  audit_said : Promised (AuditPost tt) (p, tt) a → Answers p a audit

-- the test of a record, the record of given counts, and a refusal's number
abbrev pub Tests : Pool → Result ⊤ Refused → Type 0
Tests p v = Promised (SoundnessPost tt) (p, tt) v

abbrev pub Blanks : ℕ → ℕ → ℕ → Pool → Type 0
Blanks w g b p = Promised (BlankPost tt) (w, (g, (b, tt))) p

abbrev pub Numbers : Refusal → ℕ → Type 0
Numbers r n = Promised (NumberPost tt) (r, tt) n

-- what a check found, as an answer
abbrev pub Becomes : Refused → Answer → Type 0
Becomes r a = Promised (FromPost tt) (r, tt) a

-- ---- what is asked of the caller

-- of any arguments, each function's contract asks nothing that does not hold
pub record NothingAsked : Type 0 where
  pub make : (w g b : ℕ) → MakePre tt (w, (g, (b, tt)))
  pub blank : (w g b : ℕ) → BlankPre tt (w, (g, (b, tt)))
  pub soundness : (p : Pool) → SoundnessPre tt (p, tt)
  pub hire : (p : Pool) (w : WorkerNo) → HirePre tt (p, (w, tt))
  pub fire : (p : Pool) (w : WorkerNo) (g : GuardNo) → FirePre tt (p, (w, (g, tt)))
  pub post : (p : Pool) (w : WorkerNo) (g : GuardNo) (b : BufferId) → PostPre tt (p, (w, (g, (b, tt))))
  pub give_up : (κs : Lfts 1) (p : Pool) (w : WorkerNo) (ids : Bor (List ℕ)) → GiveUpPre κs (p, (w, (ids, tt)))
  pub take : (p : Pool) (b : BufferId) → TakePre tt (p, (b, tt))
  pub ask : (p : Pool) (w : WorkerNo) (b : BufferId) → AskPre tt (p, (w, (b, tt)))
  pub advance : (κs : Lfts 1) (p : Pool) (w : WorkerNo) (out : MutBor (List ℕ)) → AdvancePre κs (p, (w, (out, tt)))
  pub set_size : (p : Pool) (w : WorkerNo) → SetSizePre tt (p, (w, tt))
  pub leaving_count : (p : Pool) → LeavingCountPre tt (p, tt)
  pub audit : (p : Pool) → AuditPre tt (p, tt)
  pub number : (r : Refusal) → NumberPre tt (r, tt)
  pub from : (r : Refused) → FromPre tt (r, tt)

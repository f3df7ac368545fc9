-- Each answer in the paper's numbers and values. The rules of every call speak in these; a contract says what the code's answer is by `said`.
use Rattle.std.specs.Prelude.{ℕ, zero, suc, Bool, true, false, Result, Ok, Err}
use Rattle.pool.specs.declared.Pool.{Pool}
use Rattle.pool.specs.declared.Outcome.{Outcome}
use Rattle.pool.specs.declared.Refusal.{Refusal}
use Rattle.pool.specs.declared.Refusal.TheVariants.{SizesOutOfRange, CountsOutOfRange, EntryBeyondCounts, KindUnknown, IdOutOfRange, RegisterOutOfRange, NoSuchWorker, WorkerNotIdle, WorkerIdle, NoSuchGuard, GuardNotEmployed, GuardPosted, NoSuchBuffer, BufferRepeated, BufferInWrongState, VersionsUsedUp, ListTooShort, MemberNotLeaving}
use Rattle.pool.specs.declared.Refused.{Refused}
use Rattle.pool.specs.declared.Answer.{Answer}
use Rattle.pool.specs.declared.Answer.TheVariants.{Accepted, Yes, No, At, Hired, NoneFound, Fired, Posted, Back, Count, Clear, Fault, Refused as RefusedAt}

-- the table of refusal numbers
abbrev pub number_of : Refusal → ℕ
number_of SizesOutOfRange = 1
number_of CountsOutOfRange = 21
number_of EntryBeyondCounts = 22
number_of KindUnknown = 23
number_of IdOutOfRange = 24
number_of RegisterOutOfRange = 25
number_of NoSuchWorker = 3
number_of WorkerNotIdle = 4
number_of WorkerIdle = 5
number_of NoSuchGuard = 6
number_of GuardNotEmployed = 7
number_of GuardPosted = 8
number_of NoSuchBuffer = 9
number_of BufferRepeated = 10
number_of BufferInWrongState = 11
number_of VersionsUsedUp = 12
number_of ListTooShort = 13
number_of MemberNotLeaving = 14

pub data Said : Type 0 where
  accepted yes no none_found fired posted clear : Said
  -- a label; a guard; a count of ids handed back; a count
  label guard back count : ℕ → Said
  -- a buffer and its number of places
  fault : ℕ → ℕ → Said
  -- a number and a place
  refused : ℕ → ℕ → Said

abbrev pub said : Answer → Said
said Accepted = accepted
said Yes = yes
said No = no
said (At l) = label l
said (Hired g) = guard g.0
said NoneFound = none_found
said Fired = fired
said Posted = posted
said (Back n) = back n
said (Count n) = count n
said Clear = clear
said (Fault b n) = fault b.0 n
said (RefusedAt r place) = refused (number_of r) place

-- what a call answers, and the record that it hands back
pub record Told : Type 0 where
  pub answer : Said
  pub pool : Pool

abbrev pub told : Outcome → Told
told o = record { answer = said o.answer; pool = o.pool }

abbrev pub answering : Said → Pool → Told
answering a p = record { answer = a; pool = p }

-- ---- checks

-- what a check of a call's record and arguments finds: nothing, or a number and a place
pub data Check : Type 0 where
  fine : Check
  refuse : ℕ → ℕ → Check

-- what the code's check answers, with or without an entry that it found
abbrev pub verdict : {A : Type 0} → Result A Refused → Check
verdict (Ok a) = fine
verdict (Err r) = refuse (number_of r.refusal) r.place

-- the first of two checks that refuses
unfoldable pub first : Check → Check → Check
first fine b = b
first (refuse n place) b = refuse n place

-- the first of the checks numbered 0, 1, .., n - 1 that refuses
unfoldable pub first_below : ℕ → (ℕ → Check) → Check
first_below zero f = fine
first_below (suc n) f = first (first_below n f) (f n)

abbrev pub is_fine : Check → Bool
is_fine fine = true
is_fine (refuse n place) = false

-- a refusal leaves the record as it was
unfoldable pub after_check : Check → Pool → Told → Told
after_check fine p d = d
after_check (refuse n place) p d = answering (refused n place) p

-- a question is only its answer
unfoldable pub answer_after : Check → Said → Said
answer_after fine a = a
answer_after (refuse n place) a = refused n place

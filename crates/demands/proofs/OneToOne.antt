-- The reading of answers is one-to-one: two answers that read the same are the same. Assumes nothing.
use mathlib.Core.Path.{◌≡◌, refl, sym, ap, ◌∙◌}
use mathlib.Core.List.{[], ◌∷◌}
use Prim.Native.Nat.{ℕ, ◌-◌}
use lib.Dec.{leb}
use lib.ListN.{get_or}
use Rattle.basics.specs.Pick.{when}
use Rattle.pool.specs.declared.Outcome.{Outcome}
use Rattle.pool.specs.declared.Refusal.{Refusal}
use Rattle.pool.specs.declared.Refusal.TheVariants.{SizesOutOfRange, CountsOutOfRange, EntryBeyondCounts, KindUnknown, IdOutOfRange, RegisterOutOfRange, NoSuchWorker, WorkerNotIdle, WorkerIdle, NoSuchGuard, GuardNotEmployed, GuardPosted, NoSuchBuffer, BufferRepeated, BufferInWrongState, VersionsUsedUp, ListTooShort, MemberNotLeaving}
use Rattle.std.specs.Prelude.{Result, Ok, Err, ⊤}
use Rattle.pool.specs.declared.Refused.{Refused}
use Rattle.pool.specs.declared.Answer.{Answer}
use Rattle.pool.specs.declared.Answer.TheVariants.{Accepted, Yes, No, At, Hired, NoneFound, Fired, Posted, Back, Count, Clear, Fault, Refused as RefusedAt}
use Rattle.pool.specs.Answers.{Check, fine, refuse, verdict, Said, Told, number_of, said, told, accepted, yes, no, none_found, fired, posted, clear, label, guard, back, count, fault, refused}

-- ---- from the paper's number and values back to the answer

-- 2 is no refusal's number any more
refusal_of : ℕ → Refusal
refusal_of n =
    when (leb 21 n)
    (get_or (CountsOutOfRange ∷ EntryBeyondCounts ∷ KindUnknown ∷ IdOutOfRange ∷ RegisterOutOfRange ∷ []) (n - 21) CountsOutOfRange)
    (get_or (SizesOutOfRange ∷ SizesOutOfRange ∷ NoSuchWorker ∷ WorkerNotIdle ∷ WorkerIdle ∷ NoSuchGuard ∷ GuardNotEmployed ∷ GuardPosted ∷ NoSuchBuffer
    ∷ BufferRepeated ∷ BufferInWrongState ∷ VersionsUsedUp ∷ ListTooShort ∷ MemberNotLeaving ∷ []) (n - 1) SizesOutOfRange)

refusal_back : (r : Refusal) → refusal_of (number_of r) ≡ r
unfolding refusal_of when
refusal_back SizesOutOfRange = refl
refusal_back CountsOutOfRange = refl
refusal_back EntryBeyondCounts = refl
refusal_back KindUnknown = refl
refusal_back IdOutOfRange = refl
refusal_back RegisterOutOfRange = refl
refusal_back NoSuchWorker = refl
refusal_back WorkerNotIdle = refl
refusal_back WorkerIdle = refl
refusal_back NoSuchGuard = refl
refusal_back GuardNotEmployed = refl
refusal_back GuardPosted = refl
refusal_back NoSuchBuffer = refl
refusal_back BufferRepeated = refl
refusal_back BufferInWrongState = refl
refusal_back VersionsUsedUp = refl
refusal_back ListTooShort = refl
refusal_back MemberNotLeaving = refl

answer_of : Said → Answer
answer_of accepted = Accepted
answer_of yes = Yes
answer_of no = No
answer_of none_found = NoneFound
answer_of fired = Fired
answer_of posted = Posted
answer_of clear = Clear
answer_of (label l) = At l
answer_of (guard g) = Hired (record { 0 = g })
answer_of (back n) = Back n
answer_of (count n) = Count n
answer_of (fault b n) = Fault (record { 0 = b }) n
answer_of (refused n place) = RefusedAt (refusal_of n) place

answer_back : (a : Answer) → answer_of (said a) ≡ a
unfolding answer_of
answer_back Accepted = refl
answer_back Yes = refl
answer_back No = refl
answer_back (At l) = refl
answer_back (Hired g) = refl
answer_back NoneFound = refl
answer_back Fired = refl
answer_back Posted = refl
answer_back (Back n) = refl
answer_back (Count n) = refl
answer_back Clear = refl
answer_back (Fault b n) = refl
answer_back (RefusedAt r place) = ap (λ (x : Refusal). RefusedAt x place) (refusal_back r)

outcome_back : (r : Outcome) → record { answer = answer_of (told r).answer; pool = (told r).pool } ≡ r
outcome_back r = ap (λ (a : Answer). record { answer = a; pool = r.pool }) (answer_back r.answer)

pub same_answer : (a b : Answer) → said a ≡ said b → a ≡ b
same_answer a b e = sym (answer_back a) ∙ ap answer_of e ∙ answer_back b

pub same_outcome : (r s : Outcome) → told r ≡ told s → r ≡ s
same_outcome r s e = sym (outcome_back r) ∙ ap (λ (t : Told). record { answer = answer_of t.answer; pool = t.pool }) e ∙ outcome_back s

verdict_of : Check → Result ⊤ Refused
verdict_of fine = Ok tt
verdict_of (refuse n place) = Err (record { refusal = refusal_of n; place = place })

verdict_back : (v : Result ⊤ Refused) → verdict_of (verdict v) ≡ v
unfolding verdict_of
verdict_back (Ok x) = refl
verdict_back (Err r) = ap (λ (x : Refusal). Err (record { refusal = x; place = r.place })) (refusal_back r.refusal)

pub same_verdict : (u v : Result ⊤ Refused) → verdict u ≡ verdict v → u ≡ v
same_verdict u v e = sym (verdict_back u) ∙ ap verdict_of e ∙ verdict_back v

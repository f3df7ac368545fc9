-- What Sorkhabin promises, on one page: the three demands and what later requests add, each a statement about the contracts of the engine's public functions (`Allowed`).
-- The functions of src/lib.rt promise these statements, so one that is not shown, or only in part, fails the check of this crate.
use Rattle.std.specs.Prelude.{ℕ, ◌-◌, ◌≤◌, ◌≡◌, ◌↔◌, true, false, List, [], ◌++◌, Result, Some, ⊤}
use Rattle.basics.specs.Among.{among_first}
use Rattle.pool.specs.declared.Pool.{Pool}
use Rattle.pool.specs.declared.Refusal.{Refusal}
use Rattle.pool.specs.declared.Refused.{Refused}
use Rattle.pool.specs.declared.Answer.{Answer}
use Rattle.pool.specs.declared.Outcome.{Outcome}
use Rattle.pool.specs.Answers.{Said, said, told, accepted, back, refused, number_of, fine, refuse, verdict}
use Rattle.pool.specs.Record.{worker_at, blank}
use Rattle.pool.specs.Sound.{in_range, sound_check, sound_of}
use Rattle.pool.specs.Make.{make_of, Fresh}
use Rattle.pool.specs.Questions.{set_size_of, leaving_count_of, audit_of}
use Rattle.rules.specs.Calls.{Call, advancing, call, list_of, lent_to, after, Seen, seen}
use Rattle.rules.specs.Shaped.{Shaped}
use Rattle.rules.specs.Frame.{Frame}
use Rattle.rules.specs.Cases.{Hold, starred}
use Rattle.rules.specs.Sentences.{Sentences}
use Rattle.rules.specs.Unsound.{Breaks, Names, UnsoundSentences}
use Rattle.rules.specs.Lent.{Lent}
use Rattle.history.specs.History.{history_after, fresh}
use Rattle.history.specs.Runs.{Follows}
use Rattle.history.specs.Examples.{HeldAndKept, HeldByAnother, KeptBack}
use Rattle.tables.specs.Bytes.{bytes}
use Rattle.grammar.specs.declared.Line.TheVariants.{Make}
use Rattle.grammar.specs.Line.{line_of}
use Rattle.grammar.specs.Words.{number_of as read_number}
use Rattle.printed.specs.Printed.{decimal, line_for}
use Rattle.schedule.specs.Read.{calls, read_of}
use Rattle.schedule.specs.Examples.{Examples}
use Rattle.player.specs.Transcript.{unrolled, printed_from, transcript}
use Rattle.demands.specs.Schedules.{Prints, NothingAskedToPlay}
use Rattle.demands.specs.Allowed.{worker, Allows, Makes, Question, set_size, leaving_count, audit, Answers, Tests, Blanks, Numbers, Becomes, NothingAsked}
use Rattle.demands.specs.Runs.{Ran, FromMaking, IsRun}

-- ---- 1: any record, any arguments; a refusal changes nothing; the promise determines the result

pub record Demand1 : Type 0 where
  -- no public function has a `requires`
  pub nothing_asked : NothingAsked
  -- a refused call hands back the record, and leaves the lent list, as they were
  pub unchanged : (c : Call) (p : Pool) (r : Outcome) (list : List ℕ) (n place : ℕ) → Allows p r c list → said r.answer ≡ refused n place
      → (r.pool ≡ p) × (list ≡ lent_to c)
  -- two results that a contract allows, of the same record and arguments, coincide: answer, record and lent list
  pub one_outcome : (c : Call) (p : Pool) (r s : Outcome) (l m : List ℕ) → Allows p r c l → Allows p s c m → (r ≡ s) × (l ≡ m)
  pub one_made : (w g b : ℕ) (r s : Outcome) → Makes w g b r → Makes w g b s → r ≡ s
  pub one_answer : (x : Question) (p : Pool) (a b : Answer) → Answers p a x → Answers p b x → a ≡ b
  pub one_test : (p : Pool) (u v : Result ⊤ Refused) → Tests p u → Tests p v → u ≡ v
  pub one_blank : (w g b : ℕ) (p q : Pool) → Blanks w g b p → Blanks w g b q → p ≡ q
  pub one_number : (r : Refusal) (m n : ℕ) → Numbers r m → Numbers r n → m ≡ n
  pub one_refused : (r : Refused) (a b : Answer) → Becomes r a → Becomes r b → a ≡ b

-- ---- 2: each result is the paper's step

abbrev pub question_of : Question → Pool → Said
question_of (set_size w) p = set_size_of p (worker w)
question_of leaving_count p = leaving_count_of p
question_of audit p = audit_of p

pub record Demand2 : Type 0 where
  -- the answer and the whole record, by the report's numbered steps and the paper's table (`call`), and the lent list
  pub step : (c : Call) (p : Pool) (r : Outcome) (list : List ℕ) → Allows p r c list → (told r ≡ call c p) × (list ≡ list_of c p)
  pub making : (w g b : ℕ) (r : Outcome) → Makes w g b r → told r ≡ make_of w g b
  pub answer : (x : Question) (p : Pool) (a : Answer) → Answers p a x → said a ≡ question_of x p
  pub test : (p : Pool) (v : Result ⊤ Refused) → Tests p v → verdict v ≡ sound_check p
  pub counts_alone : (w g b : ℕ) (p : Pool) → Blanks w g b p → p ≡ blank w g b
  pub number : (r : Refusal) (n : ℕ) → Numbers r n → n ≡ number_of r
  pub as_answer : (r : Refused) (a : Answer) → Becomes r a → said a ≡ refused (number_of r.refusal) r.place
  -- a pool that is made is fresh and sound; out of range none is made, and the record handed back is all zero and not sound
  pub made : (w g b : ℕ) (r : Outcome) → Makes w g b r → in_range w g b ≡ true → (said r.answer ≡ accepted) × Fresh w g b r.pool × (sound_of r.pool ≡ true)
  pub not_made : (w g b : ℕ) (r : Outcome) → Makes w g b r → in_range w g b ≡ false → (said r.answer ≡ refused 1 0) × Fresh 0 0 0 r.pool × (sound_of r.pool ≡ false)
  -- a sound record stays sound; every array has its length from the making on, and no call changes it
  pub kept_sound : (c : Call) (p : Pool) (r : Outcome) (list : List ℕ) → Allows p r c list → sound_of p ≡ true → sound_of r.pool ≡ true
  pub made_shape : (w g b : ℕ) (r : Outcome) → Makes w g b r → Shaped r.pool
  pub kept_shape : (c : Call) (p : Pool) (r : Outcome) (list : List ℕ) → Allows p r c list → Shaped p → Shaped r.pool
  -- what an advance of worker w leaves as it was
  pub frame : (w : ℕ) (out list : List ℕ) (p : Pool) (r : Outcome) → Allows p r (advancing w out) list → Frame p (w - 1) r.pool
  pub list_frame : (w : ℕ) (out list : List ℕ) (p : Pool) (r : Outcome) → Allows p r (advancing w out) list → ((worker_at p (w - 1)).label ≡ 32 → ⊥) → list ≡ out
  -- the paper's starred cases, and its sentences on single calls, hold of these steps
  pub cases : Hold starred
  pub sentences : Sentences
  -- one worker's registers lent alone are advanced as in the whole record
  pub lent_alone : Lent

-- ---- 3: whatever is called from a made pool on

pub record Demand3 : Type 0 where
  -- results that the contracts allow, one after the other, are a run by the definitions
  pub run : (p q : Pool) (es : List Seen) → Ran p es q → IsRun p es q
  -- each buffer is in exactly one place, its state follows from what the caller saw, what was given up is accounted for, and the counts stay
  pub follows : (w g b : ℕ) (es : List Seen) (q : Pool) → FromMaking w g b es q → Follows w g b q (history_after fresh es)
  -- an advance that hands back n ids hands back none that a guard i holds at that moment
  pub safe : (w g b : ℕ) (es : List Seen) (q : Pool) → FromMaking w g b es q
      → (v : ℕ) (out list : List ℕ) (r : Outcome) (n : ℕ) → Allows q r (advancing v out) list → said r.answer ≡ back n
      → (i id : ℕ) → 1 ≤ id → among_first list n id ≡ true → (history_after fresh es).posts.holds i ≡ id → ⊥
  -- runs in which guards hold buffers that are given up
  pub held : HeldAndKept
  pub held_by_another : HeldByAnother
  pub kept_back : KeptBack

-- ---- request 101: an unsound record is refused by the first rule that it breaks, and by the place

pub record Request101 : Type 0 where
  -- the public test finds that rule and place, and nothing exactly where the record is sound
  pub found : (p : Pool) (v : Result ⊤ Refused) → Tests p v → (n place : ℕ) → (verdict v ≡ refuse n place) ↔ Breaks p n place
  pub nothing_found : (p : Pool) (v : Result ⊤ Refused) → Tests p v → (verdict v ≡ fine) ↔ (sound_of p ≡ true)
  -- every call and every question passes it on, and says 21 or more for nothing else
  pub calls : (c : Call) (p : Pool) (r : Outcome) (list : List ℕ) → Allows p r c list → Names p (said r.answer)
  pub questions : (x : Question) (p : Pool) (a : Answer) → Answers p a x → Names p (said a)
  -- any record at all is sound or breaks one rule first, at one place
  pub sentences : UnsoundSentences

-- ---- request 102: a schedule prints its transcript, and that is a run of the engine

pub record Request102 : Type 0 where
  -- no public function of the reader and the player has a `requires`
  pub nothing_asked : NothingAskedToPlay
  -- whatever the bytes, a program that reads, loops and writes prints the transcript, and nothing else
  pub printed : (s bytes : List ℕ) → Prints s bytes → bytes ≡ transcript s
  -- a text is too long, at fault at a line, or played: then its line 1 makes the pool, and each answer is that of the unrolled text, call by call on the engine
  pub run : (s places : List ℕ) → read_of s ≡ calls places
      → (w : ℕ) × (g : ℕ) × (b : ℕ) × (line_of s 0 ≡ Some (Make w g b))
      × (transcript s ≡ line_for 1 (make_of w g b).answer [] ++ printed_from 2 (seen (unrolled s places) (make_of w g b).pool))
  -- demand 3 at any moment of any schedule whose pool is made: each buffer is in exactly one place, its state follows from the answers, what was given up is
  -- accounted for, and no step hands back a buffer that is held
  pub follows : (s places : List ℕ) (w g b : ℕ) → read_of s ≡ calls places → line_of s 0 ≡ Some (Make w g b) → in_range w g b ≡ true
      → (now later : List Call) → unrolled s places ≡ now ++ later → Follows w g b (after now (blank w g b)) (history_after fresh (seen now (blank w g b)))
  -- a number is printed so that it is read as that number
  pub read_back : (n : ℕ) → n ≤ 4294967295 → read_number (decimal n) ≡ Some n
  -- the request's own example
  pub example : transcript (bytes "make 1 1 1\nhire 1\nrepeat 3\nstep 1\nend\n") ≡ bytes "1 ok\n2 ok\n3 at 4\n4 at 6\n5 guard 0\n"
  -- more texts, and what they are read as
  pub texts : Examples

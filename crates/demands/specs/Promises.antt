-- What each contract that the page speaks of asks (`Pre`, of the arguments) and promises (`Post`, of the arguments, the result and the parameters at
-- the exit), as a plain fact. The fact is computed from the contract itself, as its crate exports it: the clause is that fact in every model of the
-- logic. Nothing here names a definition that a contract cites.
use mathlib.Core.Path.{◌≡◌, refl}
use base.Logic.{emp, sep}
use contract.Lifetimes.{Lfts}
use contract.Monad.{fact}
use borrow.Fn.World.{World, Pr}
use denote.Triple.Clauses.{AtExit}
use denote.Triple.Entry.{Args, Res}
use Rattle.pool.specs.contracts.Pool.make as make
use Rattle.pool.specs.contracts.Pool.blank as blank
use Rattle.pool.specs.contracts.Pool.soundness as soundness
use Rattle.pool.specs.contracts.Pool.hire as hire
use Rattle.pool.specs.contracts.Pool.fire as fire
use Rattle.pool.specs.contracts.Pool.post as post
use Rattle.pool.specs.contracts.Pool.give_up as give_up
use Rattle.pool.specs.contracts.Pool.take as take
use Rattle.pool.specs.contracts.Pool.ask as ask
use Rattle.pool.specs.contracts.Pool.advance as advance
use Rattle.pool.specs.contracts.Pool.set_size as set_size
use Rattle.pool.specs.contracts.Pool.leaving_count as leaving_count
use Rattle.pool.specs.contracts.Pool.audit as audit
use Rattle.pool.specs.contracts.Refusal.number as number
use Rattle.pool.specs.contracts.answers.AnswerFromRefused.from as from
use Rattle.schedule.specs.contracts.unroll as unroll
use Rattle.player.specs.contracts.play_line as play_line
use Rattle.player.specs.contracts.put_read as put_read

-- ---- what a clause says: nothing, one fact, or two or three that are joined

abbrev none : {P : (w : World) → Pr w} → ((w : World) → P w ≡ emp w.𝓤) → Type 0
none same = Unit {0}

abbrev one : {P : (w : World) → Pr w} {A : Type 0} → ((w : World) → P w ≡ fact w.𝓤 A) → Type 0
one {A = A} same = A

abbrev two : {P : (w : World) → Pr w} {A B : Type 0} → ((w : World) → P w ≡ sep w.𝓤 (fact w.𝓤 A) (fact w.𝓤 B)) → Type 0
two {A = A} {B = B} same = A × B

abbrev three : {P : (w : World) → Pr w} {A B C : Type 0}
    → ((w : World) → P w ≡ sep w.𝓤 (fact w.𝓤 A) (sep w.𝓤 (fact w.𝓤 B) (fact w.𝓤 C))) → Type 0
three {A = A} {B = B} {C = C} same = A × (B × C)

-- ---- the engine

abbrev pub MakePre : (κs : Lfts 0) → Args make.signature κs → Type 0
MakePre κs a = none {P = λ w. (make.clauses w.𝓛 w.𝓜.mem w.𝓡.returns κs a).requires tt} (λ w. refl)

abbrev pub MakePost : (κs : Lfts 0) → Args make.signature κs → Res make.signature κs → AtExit make.ended κs → Type 0
MakePost κs a r at_exit = one {P = λ w. (make.clauses w.𝓛 w.𝓜.mem w.𝓡.returns κs a).ensures tt r at_exit} (λ w. refl)

abbrev pub BlankPre : (κs : Lfts 0) → Args blank.signature κs → Type 0
BlankPre κs a = none {P = λ w. (blank.clauses w.𝓛 w.𝓜.mem w.𝓡.returns κs a).requires tt} (λ w. refl)

abbrev pub BlankPost : (κs : Lfts 0) → Args blank.signature κs → Res blank.signature κs → AtExit blank.ended κs → Type 0
BlankPost κs a r at_exit = one {P = λ w. (blank.clauses w.𝓛 w.𝓜.mem w.𝓡.returns κs a).ensures tt r at_exit} (λ w. refl)

abbrev pub SoundnessPre : (κs : Lfts 0) → Args soundness.signature κs → Type 0
SoundnessPre κs a = none {P = λ w. (soundness.clauses w.𝓛 w.𝓜.mem w.𝓡.returns κs a).requires tt} (λ w. refl)

abbrev pub SoundnessPost : (κs : Lfts 0) → Args soundness.signature κs → Res soundness.signature κs → AtExit soundness.ended κs → Type 0
SoundnessPost κs a r at_exit = one {P = λ w. (soundness.clauses w.𝓛 w.𝓜.mem w.𝓡.returns κs a).ensures tt r at_exit} (λ w. refl)

abbrev pub HirePre : (κs : Lfts 0) → Args hire.signature κs → Type 0
HirePre κs a = none {P = λ w. (hire.clauses w.𝓛 w.𝓜.mem w.𝓡.returns κs a).requires tt} (λ w. refl)

abbrev pub HirePost : (κs : Lfts 0) → Args hire.signature κs → Res hire.signature κs → AtExit hire.ended κs → Type 0
HirePost κs a r at_exit = one {P = λ w. (hire.clauses w.𝓛 w.𝓜.mem w.𝓡.returns κs a).ensures tt r at_exit} (λ w. refl)

abbrev pub FirePre : (κs : Lfts 0) → Args fire.signature κs → Type 0
FirePre κs a = none {P = λ w. (fire.clauses w.𝓛 w.𝓜.mem w.𝓡.returns κs a).requires tt} (λ w. refl)

abbrev pub FirePost : (κs : Lfts 0) → Args fire.signature κs → Res fire.signature κs → AtExit fire.ended κs → Type 0
FirePost κs a r at_exit = one {P = λ w. (fire.clauses w.𝓛 w.𝓜.mem w.𝓡.returns κs a).ensures tt r at_exit} (λ w. refl)

abbrev pub PostPre : (κs : Lfts 0) → Args post.signature κs → Type 0
PostPre κs a = none {P = λ w. (post.clauses w.𝓛 w.𝓜.mem w.𝓡.returns κs a).requires tt} (λ w. refl)

abbrev pub PostPost : (κs : Lfts 0) → Args post.signature κs → Res post.signature κs → AtExit post.ended κs → Type 0
PostPost κs a r at_exit = one {P = λ w. (post.clauses w.𝓛 w.𝓜.mem w.𝓡.returns κs a).ensures tt r at_exit} (λ w. refl)

abbrev pub GiveUpPre : (κs : Lfts 1) → Args give_up.signature κs → Type 0
GiveUpPre κs a = none {P = λ w. (give_up.clauses w.𝓛 w.𝓜.mem w.𝓡.returns κs a).requires tt} (λ w. refl)

abbrev pub GiveUpPost : (κs : Lfts 1) → Args give_up.signature κs → Res give_up.signature κs → AtExit give_up.ended κs → Type 0
GiveUpPost κs a r at_exit = one {P = λ w. (give_up.clauses w.𝓛 w.𝓜.mem w.𝓡.returns κs a).ensures tt r at_exit} (λ w. refl)

abbrev pub TakePre : (κs : Lfts 0) → Args take.signature κs → Type 0
TakePre κs a = none {P = λ w. (take.clauses w.𝓛 w.𝓜.mem w.𝓡.returns κs a).requires tt} (λ w. refl)

abbrev pub TakePost : (κs : Lfts 0) → Args take.signature κs → Res take.signature κs → AtExit take.ended κs → Type 0
TakePost κs a r at_exit = one {P = λ w. (take.clauses w.𝓛 w.𝓜.mem w.𝓡.returns κs a).ensures tt r at_exit} (λ w. refl)

abbrev pub AskPre : (κs : Lfts 0) → Args ask.signature κs → Type 0
AskPre κs a = none {P = λ w. (ask.clauses w.𝓛 w.𝓜.mem w.𝓡.returns κs a).requires tt} (λ w. refl)

abbrev pub AskPost : (κs : Lfts 0) → Args ask.signature κs → Res ask.signature κs → AtExit ask.ended κs → Type 0
AskPost κs a r at_exit = one {P = λ w. (ask.clauses w.𝓛 w.𝓜.mem w.𝓡.returns κs a).ensures tt r at_exit} (λ w. refl)

abbrev pub AdvancePre : (κs : Lfts 1) → Args advance.signature κs → Type 0
AdvancePre κs a = none {P = λ w. (advance.clauses w.𝓛 w.𝓜.mem w.𝓡.returns κs a).requires tt} (λ w. refl)

abbrev pub AdvancePost : (κs : Lfts 1) → Args advance.signature κs → Res advance.signature κs → AtExit advance.ended κs → Type 0
AdvancePost κs a r at_exit = two {P = λ w. (advance.clauses w.𝓛 w.𝓜.mem w.𝓡.returns κs a).ensures tt r at_exit} (λ w. refl)

abbrev pub SetSizePre : (κs : Lfts 0) → Args set_size.signature κs → Type 0
SetSizePre κs a = none {P = λ w. (set_size.clauses w.𝓛 w.𝓜.mem w.𝓡.returns κs a).requires tt} (λ w. refl)

abbrev pub SetSizePost : (κs : Lfts 0) → Args set_size.signature κs → Res set_size.signature κs → AtExit set_size.ended κs → Type 0
SetSizePost κs a r at_exit = one {P = λ w. (set_size.clauses w.𝓛 w.𝓜.mem w.𝓡.returns κs a).ensures tt r at_exit} (λ w. refl)

abbrev pub LeavingCountPre : (κs : Lfts 0) → Args leaving_count.signature κs → Type 0
LeavingCountPre κs a = none {P = λ w. (leaving_count.clauses w.𝓛 w.𝓜.mem w.𝓡.returns κs a).requires tt} (λ w. refl)

abbrev pub LeavingCountPost : (κs : Lfts 0) → Args leaving_count.signature κs → Res leaving_count.signature κs → AtExit leaving_count.ended κs → Type 0
LeavingCountPost κs a r at_exit = one {P = λ w. (leaving_count.clauses w.𝓛 w.𝓜.mem w.𝓡.returns κs a).ensures tt r at_exit} (λ w. refl)

abbrev pub AuditPre : (κs : Lfts 0) → Args audit.signature κs → Type 0
AuditPre κs a = none {P = λ w. (audit.clauses w.𝓛 w.𝓜.mem w.𝓡.returns κs a).requires tt} (λ w. refl)

abbrev pub AuditPost : (κs : Lfts 0) → Args audit.signature κs → Res audit.signature κs → AtExit audit.ended κs → Type 0
AuditPost κs a r at_exit = one {P = λ w. (audit.clauses w.𝓛 w.𝓜.mem w.𝓡.returns κs a).ensures tt r at_exit} (λ w. refl)

abbrev pub NumberPre : (κs : Lfts 0) → Args number.signature κs → Type 0
NumberPre κs a = none {P = λ w. (number.clauses w.𝓛 w.𝓜.mem w.𝓡.returns κs a).requires tt} (λ w. refl)

abbrev pub NumberPost : (κs : Lfts 0) → Args number.signature κs → Res number.signature κs → AtExit number.ended κs → Type 0
NumberPost κs a r at_exit = one {P = λ w. (number.clauses w.𝓛 w.𝓜.mem w.𝓡.returns κs a).ensures tt r at_exit} (λ w. refl)

abbrev pub FromPre : (κs : Lfts 0) → Args from.signature κs → Type 0
FromPre κs a = none {P = λ w. (from.clauses w.𝓛 w.𝓜.mem w.𝓡.returns κs a).requires tt} (λ w. refl)

abbrev pub FromPost : (κs : Lfts 0) → Args from.signature κs → Res from.signature κs → AtExit from.ended κs → Type 0
FromPost κs a r at_exit = one {P = λ w. (from.clauses w.𝓛 w.𝓜.mem w.𝓡.returns κs a).ensures tt r at_exit} (λ w. refl)

-- ---- the reader and the player of schedules

abbrev pub UnrollPre : (κs : Lfts 2) → Args unroll.signature κs → Type 0
UnrollPre κs a = none {P = λ w. (unroll.clauses w.𝓛 w.𝓜.mem w.𝓡.returns κs a).requires tt} (λ w. refl)

abbrev pub UnrollPost : (κs : Lfts 2) → Args unroll.signature κs → Res unroll.signature κs → AtExit unroll.ended κs → Type 0
UnrollPost κs a r at_exit = one {P = λ w. (unroll.clauses w.𝓛 w.𝓜.mem w.𝓡.returns κs a).ensures tt r at_exit} (λ w. refl)

abbrev pub PlayLinePre : (κs : Lfts 2) → Args play_line.signature κs → Type 0
PlayLinePre κs a = none {P = λ w. (play_line.clauses w.𝓛 w.𝓜.mem w.𝓡.returns κs a).requires tt} (λ w. refl)

abbrev pub PlayLinePost : (κs : Lfts 2) → Args play_line.signature κs → Res play_line.signature κs → AtExit play_line.ended κs → Type 0
PlayLinePost κs a r at_exit = three {P = λ w. (play_line.clauses w.𝓛 w.𝓜.mem w.𝓡.returns κs a).ensures tt r at_exit} (λ w. refl)

abbrev pub PutReadPre : (κs : Lfts 1) → Args put_read.signature κs → Type 0
PutReadPre κs a = none {P = λ w. (put_read.clauses w.𝓛 w.𝓜.mem w.𝓡.returns κs a).requires tt} (λ w. refl)

abbrev pub PutReadPost : (κs : Lfts 1) → Args put_read.signature κs → Res put_read.signature κs → AtExit put_read.ended κs → Type 0
PutReadPost κs a r at_exit = two {P = λ w. (put_read.clauses w.𝓛 w.𝓜.mem w.𝓡.returns κs a).ensures tt r at_exit} (λ w. refl)

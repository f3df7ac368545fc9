-- `play_line` meets its contract: what a line does decides what is printed of it.
use Rattle.std.proofs.Common.{◌≡◌, Some, refl, ap, sym, ◌∙◌, inl, inr}
use Rattle.rules.specs.Calls.{call, list_of}
use Rattle.grammar.specs.declared.Line.{Line}
use Rattle.grammar.specs.Line.{numbers_at}
use Rattle.grammar.proofs.Lawful.{give_some}
use Rattle.player.specs.Turns.{deed_of, nothing, turn_at, Shows}
use Rattle.player.proofs.Turned.{outside_shows, other_shows, deed_shows, plain_shows}
use Rattle.player.proofs.play_line.Goals as goal

pub returns-then-text-gt16384 : goal.returns-then-text-gt16384
returns-then-text-gt16384 c =
    let w = outside_shows c.args.text.now c.args.place c.args.number c.args.pool c.args.out.now c.then-text-gt16384.either in
    record { value = w.value; out_after = w.out_after; written_bound = w.written_bound }

pub give-requires : goal.give-requires
give-requires c = (c.if-text-gt16384.false, c.if-text-place.false, give_some _ _ _ (sym c.line_at.ensures ∙ (c.in-Some.is ∙ ap Some c.in-Give.is)))

pub returns-in-Make : goal.returns-in-Make
unfolding call list_of
returns-in-Make c =
    let w = plain_shows c.args.text.now c.args.place c.args.number c.args.pool c.if-text-gt16384.false c.if-text-place.false _ _ c.line_at.ensures (c.in-Some.is ∙ ap Some c.in-Make.is) _ c.make.result _ refl c.make.ensures refl c.tell.ensures in
    record { value = w.value; out_after = w.out_after; written_bound = w.written_bound }

pub returns-in-Take : goal.returns-in-Take
unfolding call list_of
returns-in-Take c =
    let w = plain_shows c.args.text.now c.args.place c.args.number c.args.pool c.if-text-gt16384.false c.if-text-place.false _ _ c.line_at.ensures (c.in-Some.is ∙ ap Some c.in-Take.is) _ c.take.result _ refl c.take.ensures refl c.tell-in-Take.ensures in
    record { value = w.value; out_after = w.out_after; written_bound = w.written_bound }

pub returns-in-Hire : goal.returns-in-Hire
unfolding call list_of
returns-in-Hire c =
    let w = plain_shows c.args.text.now c.args.place c.args.number c.args.pool c.if-text-gt16384.false c.if-text-place.false _ _ c.line_at.ensures (c.in-Some.is ∙ ap Some c.in-Hire.is) _ c.hire.result _ refl c.hire.ensures refl c.tell-in-Hire.ensures in
    record { value = w.value; out_after = w.out_after; written_bound = w.written_bound }

pub returns-in-Fire : goal.returns-in-Fire
unfolding call list_of
returns-in-Fire c =
    let w = plain_shows c.args.text.now c.args.place c.args.number c.args.pool c.if-text-gt16384.false c.if-text-place.false _ _ c.line_at.ensures (c.in-Some.is ∙ ap Some c.in-Fire.is) _ c.fire.result _ refl c.fire.ensures refl c.tell-in-Fire.ensures in
    record { value = w.value; out_after = w.out_after; written_bound = w.written_bound }

pub returns-in-Post : goal.returns-in-Post
unfolding call list_of
returns-in-Post c =
    let w = plain_shows c.args.text.now c.args.place c.args.number c.args.pool c.if-text-gt16384.false c.if-text-place.false _ _ c.line_at.ensures (c.in-Some.is ∙ ap Some c.in-Post.is) _ c.post-done.result _ refl c.post-done.ensures refl c.tell-in-Post.ensures in
    record { value = w.value; out_after = w.out_after; written_bound = w.written_bound }

pub returns-in-Ask : goal.returns-in-Ask
unfolding call list_of
returns-in-Ask c =
    let w = plain_shows c.args.text.now c.args.place c.args.number c.args.pool c.if-text-gt16384.false c.if-text-place.false _ _ c.line_at.ensures (c.in-Some.is ∙ ap Some c.in-Ask.is) _ c.ask.result _ refl c.ask.ensures refl c.tell-in-Ask.ensures in
    record { value = w.value; out_after = w.out_after; written_bound = w.written_bound }

pub returns-in-Give : goal.returns-in-Give
returns-in-Give c =
    let w = deed_shows c.args.text.now c.args.place c.args.number c.args.pool c.if-text-gt16384.false c.if-text-place.false _ _ c.line_at.ensures (c.in-Some.is ∙ ap Some c.in-Give.is) _ refl c.give.ensures in
    record { value = w.value; out_after = w.out_after; written_bound = w.written_bound }

pub returns-in-Step : goal.returns-in-Step
returns-in-Step c =
    let w = deed_shows c.args.text.now c.args.place c.args.number c.args.pool c.if-text-gt16384.false c.if-text-place.false _ _ c.line_at.ensures (c.in-Some.is ∙ ap Some c.in-Step.is) _ refl c.step.ensures in
    record { value = w.value; out_after = w.out_after; written_bound = w.written_bound }

pub returns-in_default : goal.returns-in_default
returns-in_default c =
    let w = other_shows c.args.text.now c.args.place c.args.number c.args.pool c.if-text-gt16384.false c.if-text-place.false _ _ c.line_at.ensures c.in_default.is c.args.out.now refl in
    record { value = w.value; out_after = w.out_after; written_bound = w.written_bound }

pub returns-in-Repeat : goal.returns-in-Repeat
returns-in-Repeat c =
    let other = λ (m : Line) (g : c.in-Some.line ≡ m) (f : deed_of (Some m) (numbers_at c.args.text.now c.args.place) ≡ nothing).
    other_shows c.args.text.now c.args.place c.args.number c.args.pool c.if-text-gt16384.false c.if-text-place.false _ (Some m) c.line_at.ensures (c.in-Some.is ∙ ap Some g) c.args.out.now f in
    let w : Shows (turn_at c.args.text.now c.args.place c.args.number c.args.pool) (record { pool = c.args.pool; written = 0 }) c.args.out.now c.args.out.now =
    elim c.in-Repeat.is [ inl h ↦ other _ h.1 refl | inr h ↦ other _ h refl ] in
    record { value = w.value; out_after = w.out_after; written_bound = w.written_bound }

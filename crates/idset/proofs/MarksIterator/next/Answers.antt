-- The next mark is the first of what is left. Assumes nothing.
use Rattle.std.proofs.Common.{ap, length, sym, ◌∙◌, arith, rules}
use Rattle.idset.proofs.Walk.{left_none, left_some, place_fits}
use Rattle.idset.proofs.MarksIterator.next.Goals as goal

pub returns-in_err-mark-clause-steps : goal.returns-in_err-mark-clause-steps
returns-in_err-mark-clause-steps c =
    let none = left_none c.args.self.now.word c.args.self.now.from (sym c.in_err-mark.was ∙ c.next_mark.ensures) in
    rw c.from_residual.ensures (none, none)

pub overflow_add-self : goal.overflow_add-self
overflow_add-self c = let l = place_fits c.args.self.now.word c.args.self.now.from (sym c.in_ok-mark.was ∙ c.next_mark.ensures) in search rules

pub returns-clause-steps : goal.returns-clause-steps
returns-clause-steps c = left_some c.args.self.now.word c.args.self.now.from (sym c.in_ok-mark.was ∙ c.next_mark.ensures)

pub returns-clause-goes : goal.returns-clause-goes
returns-clause-goes c =
    let next = left_some c.args.self.now.word c.args.self.now.from (sym c.in_ok-mark.was ∙ c.next_mark.ensures) in
    record { on = λ _. (tt, tt, omega (arith, ap length next)); keeps = tt; rests = λ _. tt }

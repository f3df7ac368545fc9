-- `line_at` meets its contract: what the line says is told by its first word and the numbers after it.
use Rattle.std.proofs.Common.{[], eqb, refl, ap, ◌∙◌, arith, rules, tests}
use Rattle.std.proofs.lemmas.Iterator.Consumers.{YieldsList-turn}
use Rattle.std.proofs.lemmas.Iterator.Splits.{YieldsList-from_slice_split}
use Rattle.std.specs.Result.{result_ok}
use Rattle.grammar.specs.Words.{words}
use Rattle.grammar.proofs.Said.{line_none, line_bad, line_told}
use Rattle.grammar.proofs.line_at.Goals as goal

pub returns-then-end-s : goal.returns-then-end-s
returns-then-end-s c = line_none _ _ _ c.stop-end.ensures.value c.if-end-s.true

pub returns-in_err-n : goal.returns-in_err-n
unfolding words
returns-in_err-n c =
    let t =
    YieldsList-turn (YieldsList-from_slice_split _ (λ b. eqb b 32) _ c.split.ensures.rest c.split.ensures.done c.split.ensures.closure (λ x b q k. search (rules, tests)))
    [] _ refl _ _ c.in_ok-word.word c.in_ok-word.was c.next.ensures.steps in
    c.from_residual-in_err-n.ensures ∙ line_bad _ _ _ c.stop-end.ensures.value (omega arith) _ t (c.in_err-n.ensures.value ∙ ap result_ok c.put_numbers.ensures.value)

pub returns : goal.returns
unfolding words
returns c =
    let t =
    YieldsList-turn (YieldsList-from_slice_split _ (λ b. eqb b 32) _ c.split.ensures.rest c.split.ensures.done c.split.ensures.closure (λ x b q k. search (rules, tests)))
    [] _ refl _ _ c.in_ok-word.word c.in_ok-word.was c.next.ensures.steps in
    line_told _ _ _ c.stop-end.ensures.value (omega arith) _ t c.in_ok-n.n c.put_numbers.new.list _ (c.in_ok-n.ensures.value ∙ ap result_ok c.put_numbers.ensures.value) c.put_numbers.ensures.list_after
    (rw c.min.ensures at c.said.ensures)

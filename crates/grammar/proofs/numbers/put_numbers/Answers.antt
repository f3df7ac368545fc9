-- `put_numbers` meets its contract: the numbers read and those of the words that are left are the line's numbers.
use Rattle.std.proofs.Common.{◌≡◌, set, eqb, sym, ◌∙◌, arith, rules, tests}
use Rattle.std.proofs.lemmas.Iterator.Consumers.{YieldsList-at, YieldsList-turn, YieldsList-end}
use Rattle.std.proofs.lemmas.Iterator.Splits.{YieldsList-from_slice_split}
use Rattle.std.proofs.lemmas.List.{set_past, length_push}
use Rattle.std.proofs.lemmas.Bool.Decides.{nat_tests}
use Rattle.grammar.specs.Words.{words}
use Rattle.grammar.proofs.Tally.{some_word, few_words, after_first, read_none, read_on, read_all}
use Rattle.grammar.proofs.numbers.put_numbers.Goals.{then-n-list, else-n-list}
use Rattle.grammar.proofs.numbers.put_numbers.Goals as goal

pub returns-in_default : goal.returns-in_default
unfolding words
returns-in_default c =
    let l = c.loop-word in
    let t =
    YieldsList-turn
    (YieldsList-at c.into_iter-word-iterator.ensures.into_iter_gives (after_first _ c.next.result (YieldsList-from_slice_split _ (λ b. eqb b 32) c.args.line.now
    c.split-words.ensures.rest c.split-words.ensures.done c.split-words.ensures.closure (λ x b q k. search (rules, tests))) (some_word c.args.line.now) c.next.ensures.steps))
    c.loop-word.yielded _ c.loop-word.yielded_by _ _ c.in-Some.word c.in-Some.is c.next-in-loop-word.ensures.steps in
    let r = read_none _ _ l.list l.n l.invariant.1 c.in-Some.word.now _ l.invariant.0 t (sym c.number.ensures ∙ c.in_default.is) in
    record { value = r.0; list_after = r.1 }

pub overflow_add-n : goal.overflow_add-n
unfolding words
overflow_add-n c =
    let l = c.loop-word in
    let t =
    YieldsList-turn
    (YieldsList-at c.into_iter-word-iterator.ensures.into_iter_gives (after_first _ c.next.result (YieldsList-from_slice_split _ (λ b. eqb b 32) c.args.line.now
    c.split-words.ensures.rest c.split-words.ensures.done c.split-words.ensures.closure (λ x b q k. search (rules, tests))) (some_word c.args.line.now) c.next.ensures.steps))
    c.loop-word.yielded _ c.loop-word.yielded_by _ _ c.in-Some.word c.in-Some.is c.next-in-loop-word.ensures.steps in
    omega (arith, t.0, l.invariant.0, few_words c.args.line.now)

pub loop-word-preserved : goal.loop-word-preserved
unfolding words
loop-word-preserved c =
    let l = c.loop-word in
    let t =
    YieldsList-turn
    (YieldsList-at c.into_iter-word-iterator.ensures.into_iter_gives (after_first _ c.next.result (YieldsList-from_slice_split _ (λ b. eqb b 32) c.args.line.now
    c.split-words.ensures.rest c.split-words.ensures.done c.split-words.ensures.closure (λ x b q k. search (rules, tests))) (some_word c.args.line.now) c.next.ensures.steps))
    c.loop-word.yielded _ c.loop-word.yielded_by _ _ c.in-Some.word c.in-Some.is c.next-in-loop-word.ensures.steps in
    let put : c.if-n-list.list ≡ set l.list l.n c.in-Some-number.v =
    elim c.if-n-list.branch [ then-n-list w ↦ w.list-is | else-n-list w ↦ w.list-is ∙ sym (set_past l.list l.n c.in-Some-number.v (grind (arith, nat_tests))) ] in
    (omega (arith, l.invariant.0, length_push l.yielded c.in-Some.word), read_on _ _ l.list l.n l.invariant.1 c.in-Some.word.now _ l.invariant.0 t c.in-Some-number.v _ (sym c.number.ensures ∙ c.in-Some-number.is) put)

pub returns : goal.returns
unfolding words
returns c =
    let l = c.loop-word in
    let t =
    YieldsList-end
    (YieldsList-at c.into_iter-word-iterator.ensures.into_iter_gives (after_first _ c.next.result (YieldsList-from_slice_split _ (λ b. eqb b 32) c.args.line.now
    c.split-words.ensures.rest c.split-words.ensures.done c.split-words.ensures.closure (λ x b q k. search (rules, tests))) (some_word c.args.line.now) c.next.ensures.steps))
    c.loop-word.yielded _ c.loop-word.yielded_by _ _ c.in-None.is c.next-in-loop-word.ensures.steps in
    let r = read_all _ _ l.list l.n l.invariant.1 (omega (arith, t.1, l.invariant.0)) in
    record { value = r.0; list_after = r.1 }

-- `pool::search::search` meets its contract, whatever test it is. Assumes nothing.
use Rattle.std.proofs.Common.{true, false, sym, ◌∙◌, arith, rules, tests}
use Rattle.std.proofs.iter.runs.Sources.{ranges}
use Rattle.std.proofs.lemmas.Iterator.{serves_from_Range, first_from_Range}
use Rattle.pool.specs.Answers.{number_of}
use Rattle.pool.proofs.Told.{same_refusal}
use Rattle.pool.proofs.Firsts.{all_pass, fails_first}
use Rattle.pool.proofs.search.search.Goals as goal

pub find-requires-clause-callable : goal.find-requires-clause-callable
find-requires-clause-callable g c = serves_from_Range (λ x q k. search (rules, tests)) (λ k lo hi y e. rw e (c.requires.can k hi))

pub overflow_add-first : goal.overflow_add-first
overflow_add-first g c = search (rules, ranges)

pub returns-in-Some : goal.returns-in-Some
returns-in-Some g c place at test law =
    let passed = goal.F-post g c.args.passes in
    let h = first_from_Range _ _ _ _ (λ k. passed k false) (λ k. passed k true) c.find.ensures.ran (λ x q k. search (rules, tests)) (λ x q k. search (rules, tests)) in
    let r = rw c.in-Some.is at h in
    same_refusal _ _ _ _ c.at.ensures.refusal (c.at.ensures.place ∙ sym (at c.in-Some.k))
    ∙ fails_first (number_of c.args.rule) place test c.args.n c.in-Some.k r.1 (λ j l. law j true (omega (arith, r.1)) (r.3 j (omega arith) l)) (law _ _ r.1 r.2)

pub returns : goal.returns
returns g c place at test law =
    let passed = goal.F-post g c.args.passes in
    let h = first_from_Range _ _ _ _ (λ k. passed k false) (λ k. passed k true) c.find.ensures.ran (λ x q k. search (rules, tests)) (λ x q k. search (rules, tests)) in
    let r = rw c.in-None.is at h in
    all_pass (number_of c.args.rule) place test c.args.n (λ j l. law j true l (r j (omega arith) l))

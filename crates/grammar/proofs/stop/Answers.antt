-- `stop` meets its contract: by where `position` finds the newline among the bytes from `at` on.
use Rattle.std.proofs.Common.{◌-◌, length, take, drop, eqb, arith, rules, tests}
use Rattle.std.proofs.lemmas.Iterator.{YieldsList-from_slice}
use Rattle.std.proofs.lemmas.Iterator.Search.{position_from_yields_List}
use Rattle.std.proofs.lemmas.Slice.{between_to_end}
use Rattle.grammar.proofs.Laws.{stop_found}
use Rattle.grammar.proofs.stop.Goals as goal

pub returns-clause-value : goal.returns-clause-value
returns-clause-value c =
    let s = c.args.s.now in
    let rest = take (length s - c.args.at) (drop c.args.at s) in
    stop_found s rest c.args.at c.position.result _ (between_to_end s c.args.at (length s) (omega arith))
    (position_from_yields_List (λ b. eqb b 10) _ _ c.position.result c.position.ensures.ran (YieldsList-from_slice rest cc) (λ x b q k. search (rules, tests)))
    c.unwrap_or.ensures

-- `said` meets its contract: the arm of the longest word, by its length and bytes.
use Rattle.std.proofs.Common.{◌≡◌, ℕ, ◌≤◌, List, length, get_or, Some, codes, arith, rules}
use Rattle.std.proofs.lemmas.Slice.Eq.{text_from_reads}
use Rattle.std.proofs.lemmas.Bool.Decides.{nat_tests}
use Rattle.grammar.specs.declared.Line.TheVariants.{Repeat}
use Rattle.grammar.specs.Line.{line_by}
use Rattle.grammar.proofs.Line.said.Goals as goal

repeats : (w ns : List ℕ) → w ≡ codes "repeat" → length ns ≡ 1 → 1 ≤ get_or ns 0 0 → get_or ns 0 0 ≤ 1000 → Some (Repeat (get_or ns 0 0)) ≡ line_by w ns
repeats w ns e n l m = rw e (grind (arith, nat_tests))

pub returns-in-repeat-1-to-1000 : goal.returns-in-repeat-1-to-1000
returns-in-repeat-1-to-1000 c =
    repeats c.args.word.now c.args.numbers.now (text_from_reads c.args.word.now (codes "repeat") (grind (arith, nat_tests)) (search rules)) (grind (arith, nat_tests)) (grind (arith, nat_tests)) (grind (arith, nat_tests))

-- The numbers read and those of the words that are left are the line's numbers.
use Rattle.std.proofs.Common.{◌≡◌, length, drop}
use Rattle.grammar.specs.Words.{words}
use Rattle.grammar.proofs.Tally.{Read}
use Rattle.grammar.proofs.numbers.put_numbers.Given as goal

abbrev pub invariant-loop-word : goal.invariant-loop-word
invariant-loop-word l = (l.n ≡ length l.yielded) × Read (drop 1 (words l.line)) l.fn.list l.list l.n

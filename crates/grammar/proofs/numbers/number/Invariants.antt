-- What was read and the digits that are left make the word's number, and the word is all digits if what is left is.
use Rattle.std.proofs.Common.{◌≡◌, ◌≤◌, true, drop}
use Rattle.grammar.specs.Words.{value, digits, unpadded}
use Rattle.grammar.proofs.numbers.number.Given as goal

abbrev pub invariant-loop-b : goal.invariant-loop-b
invariant-loop-b l = record {
  small : l.v ≤ 4294967295;
  bare : unpadded l.word ≡ true;
  made : value l.v (drop l.b-index l.word) ≡ value 0 l.word;
  all : digits (drop l.b-index l.word) ≡ digits l.word;
}

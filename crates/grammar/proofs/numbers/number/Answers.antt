-- `number` meets its contract: what was read and the digits that are left make the word's number.
use Rattle.std.proofs.Common.{◌≡◌, ◌*◌, ◌+◌, ◌-◌, get_or, refl, sym, ◌∙◌, arith}
use Rattle.std.proofs.lemmas.Bool.Decides.{nat_tests}
use Rattle.grammar.proofs.Digits.{unpadded_one, unpadded_led, number_none, number_padded, other_told, value_on, digits_on, large_told, number_told}
use Rattle.grammar.proofs.numbers.number.Goals.{in_default, in_default-2}
use Rattle.grammar.proofs.numbers.number.Goals as goal

pub returns-in-empty : goal.returns-in-empty
returns-in-empty c = number_none _ (grind (arith, nat_tests))

pub returns-in-empty-2 : goal.returns-in-empty-2
returns-in-empty-2 c = number_padded _ (grind (arith, nat_tests)) (grind (arith, nat_tests))

pub loop-b-init : goal.loop-b-init
loop-b-init c = record {
  small = omega arith;
  bare = elim c.if-word-lt2.branch [ in_default w ↦ unpadded_one _ (grind (arith, nat_tests)) (grind (arith, nat_tests)) | in_default-2 w ↦ unpadded_led _ (grind (arith, nat_tests)) (λ e. grind (arith, nat_tests)) ];
  made = refl;
  all = refl;
}

pub returns-then-not-is_ascii_digit : goal.returns-then-not-is_ascii_digit
returns-then-not-is_ascii_digit c =
    let l = c.loop-b in
    other_told _ l.b-index l.v l.invariant.made l.invariant.all (omega arith) (sym c.is_ascii_digit.ensures.value ∙ c.if-not-is_ascii_digit.true)

pub returns-in_err-checked_mul : goal.returns-in_err-checked_mul
returns-in_err-checked_mul c =
    let l = c.loop-b in
    c.from_residual.ensures ∙ large_told _ l.b-index l.v l.invariant.made l.invariant.all (omega arith) (omega (arith, c.in_err-checked_mul.ensures))

pub returns-in_err-v : goal.returns-in_err-v
returns-in_err-v c =
    let l = c.loop-b in
    c.from_residual-in_err-v.ensures ∙ large_told _ l.b-index l.v l.invariant.made l.invariant.all (omega arith) (omega (arith, c.in_ok-checked_mul.ensures, c.from.ensures, c.in_err-v.ensures))

pub loop-b-preserved : goal.loop-b-preserved
loop-b-preserved c =
    let l = c.loop-b in
    let v : c.in_ok-v.v ≡ l.v * 10 + (get_or c.args.word.now l.b-index 0 - 48) = omega (arith, c.in_ok-checked_mul.ensures, c.from.ensures, c.in_ok-v.ensures) in
    record {
      small = omega (arith, c.in_ok-v.ensures);
      bare = l.invariant.bare;
      made = rw v (value_on _ l.b-index l.v l.invariant.made l.invariant.all (omega arith));
      all = digits_on _ l.b-index l.v l.invariant.made l.invariant.all (omega arith) (sym c.is_ascii_digit.ensures.value ∙ c.if-not-is_ascii_digit.false);
    }

pub returns : goal.returns
returns c =
    let l = c.loop-b in
    number_told _ l.b-index l.v l.invariant.made l.invariant.all l.invariant.bare (omega arith) l.invariant.small

-- A number of 32 bits that is printed is read as the number that it is. Assumes nothing.
use Prim.Native.Nat.{ℕ, zero, suc, ◌^◌, ◌≤◌, ◌<◌}
use native.Mathlib.Omega.{arith}
use mathlib.Core.Path.{◌≡◌, refl}
use mathlib.Core.List.{List, [], ◌∷◌}
use mathlib.Core.Bool.{true}
use lib.ListN.{length, get_or}
use borrow.Author.Tests.{ne_eqb, le-leb}
use Rattle.std.specs.Fmt.{decimal as std_decimal}
use Rattle.std.proofs.Common.{Some, rules}
use Rattle.std.proofs.lemmas.Fmt.{decimal_digit, decimal_nonempty, first_decimal, digits_decimal, digits_value-decimal}
use Rattle.std.proofs.lemmas.Str.Parse.{IsNumeralModel, numerals_by_fold}
use Rattle.basics.specs.Pick.{when}
use Rattle.grammar.specs.Words.{digits, value, unpadded, number_of}
use Rattle.printed.specs.Printed.{decimal}
use Rattle.printed.proofs.Laws.{decimal_is}

-- what the grammar says of digits is what the library says
own : IsNumeralModel (λ ds. digits ds ≡ true) (value 0)
unfolding digits value
own = numerals_by_fold _ (search rules) value (search rules)

bare : (w : List ℕ) → 0 < length w → (get_or w 0 0 ≡ 48 → length w ≡ 1) → unpadded w ≡ true
unfolding unpadded
bare [] h f = absurd (omega arith)
bare (b ∷ []) h f = refl
bare (b ∷ c ∷ w) h f = rw (ne_eqb b 48 (λ e. omega (arith, f e)))

lone : (n : ℕ) → n < 2 ^ 64 → get_or (std_decimal n) 0 0 ≡ 48 → length (std_decimal n) ≡ 1
lone zero h e = rw (decimal_digit 0 (omega arith))
lone (suc n) h e = absurd (omega (arith, e, first_decimal (suc n) (omega arith) h))

pub read_back : (n : ℕ) → n ≤ 4294967295 → number_of (decimal n) ≡ Some n
unfolding number_of when
read_back n h =
    let b : n < 2 ^ 64 = omega arith in
    rw (decimal_is n b, bare (std_decimal n) (decimal_nonempty n b) (lone n b), digits_decimal own n b, digits_value-decimal own n b, le-leb n 4294967295 h)

-- Worked lines, computed. Assumes nothing.
use mathlib.Core.Path.{◌≡◌, refl}
use mathlib.Core.List.{[], ◌∷◌}
use Rattle.basics.specs.Pick.{when}
use Rattle.tables.specs.Bytes.{bytes}
use Rattle.pool.specs.Answers.{accepted, label, back, refused}
use Rattle.printed.specs.Printed.{decimal_in, decimal, spaced, in_words, line_for}

zero_is : decimal 0 ≡ bytes "0"
unfolding decimal decimal_in when
zero_is = refl

largest_is : decimal 18446744073709551615 ≡ bytes "18446744073709551615"
unfolding decimal decimal_in when
largest_is = refl

ok_line : line_for 1 accepted [] ≡ bytes "1 ok\n"
unfolding line_for in_words decimal decimal_in when
ok_line = refl

at_line : line_for 10 (label 31) [] ≡ bytes "10 at 31\n"
unfolding line_for in_words spaced decimal decimal_in when
at_line = refl

-- of a list of 4 the ids that were handed back, and a list with none
back_line : line_for 205 (back 3) (7 ∷ 10 ∷ 100 ∷ 4 ∷ []) ≡ bytes "205 back 7 10 100\n"
unfolding line_for in_words spaced decimal decimal_in when
back_line = refl

none_back_line : line_for 6 (back 0) (7 ∷ []) ≡ bytes "6 back\n"
unfolding line_for in_words decimal decimal_in when
none_back_line = refl

refused_line : line_for 99 (refused 21 0) [] ≡ bytes "99 refused 21 0\n"
unfolding line_for in_words spaced decimal decimal_in when
refused_line = refl

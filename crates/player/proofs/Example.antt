-- The request's own example, from its bytes to the bytes that it prints. Assumes nothing.
use mathlib.Core.Path.{◌≡◌, refl, ap, ◌∙◌}
use mathlib.Core.List.{List, [], ◌∷◌}
use Prim.Native.Nat.{ℕ}
use lib.ListN.{replicate}
use Rattle.basics.specs.Pick.{when}
use Rattle.tables.specs.Bytes.{bytes}
use Rattle.pool.specs.Make.{make_of}
use Rattle.rules.specs.Calls.{Call, hiring, advancing}
use Rattle.rules.proofs.Computing.{computing}
use Rattle.grammar.specs.Line.{stop_of, line_of, numbers_at}
use Rattle.grammar.specs.Words.{words, digits, value, unpadded, number_of, numbers_of, all_numbers}
use Rattle.printed.specs.Printed.{decimal_in, decimal, spaced, in_words, line_for}
use Rattle.schedule.proofs.Examples.{examples}
use Rattle.player.specs.Turns.{Deed, makes, deed_at}
use Rattle.player.specs.Transcript.{unrolled, printed_from, played_from, transcript}
use Rattle.player.proofs.Whole.{transcript_is}

abbrev text : List ℕ
text = bytes "make 1 1 1\nhire 1\nrepeat 3\nstep 1\nend\n"

abbrev places : List ℕ
places = 0 ∷ 11 ∷ 27 ∷ 27 ∷ 27 ∷ []

abbrev step : Call
step = advancing 1 (replicate 256 0)

making : deed_at text 0 ≡ makes 1 1 1
unfolding deed_at when stop_of line_of numbers_at words digits value unpadded number_of numbers_of all_numbers
making = refl

calls : unrolled text places ≡ hiring 1 ∷ step ∷ step ∷ step ∷ []
unfolding unrolled deed_at when stop_of line_of numbers_at words digits value unpadded number_of numbers_of all_numbers
calls = refl

answers : played_from (hiring 1 ∷ step ∷ step ∷ step ∷ []) (makes 1 1 1) ≡ bytes "1 ok\n2 ok\n3 at 4\n4 at 6\n5 guard 0\n"
unfolding computing make_of decimal_in decimal spaced in_words line_for printed_from
answers = refl

pub example : transcript text ≡ bytes "1 ok\n2 ok\n3 at 4\n4 at 6\n5 guard 0\n"
example = transcript_is text places examples.request ∙ (ap (λ (d : Deed). played_from (unrolled text places) d) making ∙ (ap (λ (cs : List Call). played_from cs (makes 1 1 1)) calls ∙ answers))

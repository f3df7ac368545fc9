-- What is printed of a text that is not played has room on a page, and in a line. Assumes nothing.
use Prim.Native.Nat.{ℕ, ◌≤◌}
use native.Mathlib.Omega.{arith}
use mathlib.Core.Path.{◌≡◌}
use mathlib.Core.List.{List}
use lib.ListN.{length, length-append}
use Rattle.std.proofs.Common.{Result, Ok, Err}
use Rattle.tables.specs.Bytes.{bytes}
use Rattle.printed.specs.declared.Page.{Page}
use Rattle.printed.specs.Page.{HasRoom}
use Rattle.printed.specs.Printed.{decimal}
use Rattle.printed.proofs.Laws.{decimal_fits, room_from_start}
use Rattle.schedule.specs.declared.Unread.{Unread}
use Rattle.schedule.specs.declared.Unread.TheVariants.{TooLong, BadLine}
use Rattle.player.specs.Transcript.{bad_line_bytes, judgement}

pub bad_line_room : {p : Page} {t : List ℕ} (n : ℕ) → p.at ≡ 0 → p.bytes.now ≡ t → length t ≡ 8192 → HasRoom p (bad_line_bytes n)
bad_line_room n start lent h = room_from_start start lent (omega (arith, h, length-append (decimal n) (bytes "\n"), decimal_fits n))

judgement_fits : (r : Result ℕ Unread) → length (judgement r) ≤ 8192
judgement_fits (Ok n) = omega arith
judgement_fits (Err TooLong) = omega arith
judgement_fits (Err (BadLine n)) = omega (arith, length-append (decimal n) (bytes "\n"), decimal_fits n)

pub judgement_within : (r : Result ℕ Unread) (n m : ℕ) → n ≡ length (judgement r) → m ≡ 8192 → n ≤ m
judgement_within r n m e f = omega (arith, e, f, judgement_fits r)

-- `put_read` meets its contract: each arm has its words.
use Rattle.std.proofs.Common.{◌≡◌, ◌∙◌}
use Rattle.printed.specs.Page.{Wrote}
use Rattle.printed.proofs.Laws.{wrote_none, wrote_both, room_front, room_behind, written_from_start}
use Rattle.schedule.specs.declared.Unread.TheVariants.{TooLong, BadLine}
use Rattle.player.specs.Transcript.{judgement}
use Rattle.player.proofs.Judged.{bad_line_room}
use Rattle.player.proofs.put_read.Goals as goal

pub put_number-requires : goal.put_number-requires
put_number-requires c =
    let p = c.new-page.ensures in
    room_front _ _ (room_behind c.put_bytes-in-Err-BadLine.ensures (bad_line_room c.in-Err-BadLine.n p.at p.bytes c.told-out))

pub put_bytes-requires-in-Err-BadLine-2 : goal.put_bytes-requires-in-Err-BadLine-2
put_bytes-requires-in-Err-BadLine-2 c =
    let p = c.new-page.ensures in
    room_behind c.put_number.ensures (room_behind c.put_bytes-in-Err-BadLine.ensures (bad_line_room c.in-Err-BadLine.n p.at p.bytes c.told-out))

pub returns : goal.returns
returns c =
    let w : Wrote c.new-page.result c.match-read.page (judgement c.args.read) =
    elim c.match-read.branch [
      | goal.in-Ok w ↦ rw (w.page-is, w.in-Ok.is) (wrote_none _)
      | goal.in-Err-TooLong w ↦ let f : w.in-Err-TooLong.field-0 ≡ TooLong = rw w.in-Err-TooLong.is at w.in-Err-TooLong.field-0-is in rw (w.page-is, w.in-Err-TooLong.is, f) w.put_bytes.ensures
      | goal.in-Err-BadLine w ↦
          let f : w.in-Err-BadLine.field-0 ≡ BadLine w.in-Err-BadLine.n = rw w.in-Err-BadLine.is at w.in-Err-BadLine.field-0-is in
          rw (w.page-is, w.in-Err-BadLine.is, f)
          (wrote_both w.put_bytes-in-Err-BadLine.ensures (wrote_both w.put_number.ensures w.put_bytes-in-Err-BadLine-2.ensures))
    ] in
    let s = written_from_start c.new-page.ensures.at c.new-page.ensures.bytes w in
    record { value = c.written.ensures ∙ s.0; out_after = s.1 }

-- `put_line` meets its contract: the number, the answer in words, a newline.
use Rattle.std.proofs.Common.{◌∙◌, rules}
use Rattle.printed.specs.Printed.{line_for}
use Rattle.printed.proofs.Laws.{wrote_both, room_front, room_behind, room_from_start, written_from_start}
use Rattle.printed.proofs.put_line.Goals as goal

pub put_number-requires : goal.put_number-requires
unfolding line_for
put_number-requires c = room_front _ _ (room_from_start c.new-page.ensures.at c.new-page.ensures.bytes c.requires)

pub put_answer-requires : goal.put_answer-requires
unfolding line_for
put_answer-requires c = room_front _ _ (room_behind c.put_number.ensures (room_from_start c.new-page.ensures.at c.new-page.ensures.bytes c.requires))

pub put_bytes-requires : goal.put_bytes-requires
unfolding line_for
put_bytes-requires c = room_behind c.put_answer.ensures (room_behind c.put_number.ensures (room_from_start c.new-page.ensures.at c.new-page.ensures.bytes c.requires))

pub returns : goal.returns
unfolding line_for
returns c =
    let w = written_from_start c.new-page.ensures.at c.new-page.ensures.bytes (wrote_both c.put_number.ensures (wrote_both c.put_answer.ensures c.put_bytes.ensures)) in
    record { value = c.written.ensures ∙ w.0; out_after = search rules }

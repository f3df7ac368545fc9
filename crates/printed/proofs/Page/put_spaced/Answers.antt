-- `put_spaced` meets its contract: a space, then the number.
use Rattle.printed.specs.Printed.{spaced}
use Rattle.printed.proofs.Laws.{room_front, room_behind, wrote_both}
use Rattle.printed.proofs.Page.put_spaced.Goals as goal

pub put_bytes-requires : goal.put_bytes-requires
unfolding spaced
put_bytes-requires c = room_front _ _ c.requires

pub put_number-requires : goal.put_number-requires
unfolding spaced
put_number-requires c = room_behind c.put_bytes.ensures c.requires

pub returns : goal.returns
unfolding spaced
returns c = wrote_both c.put_bytes.ensures c.put_number.ensures

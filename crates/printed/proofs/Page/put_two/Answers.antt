-- `put_two` meets its contract: a word and its number, then the other number.
use Rattle.std.proofs.Common.{append_assoc}
use Rattle.printed.proofs.Laws.{room_behind, wrote_both}
use Rattle.printed.proofs.Page.put_two.Goals as goal

pub put_spaced-requires : goal.put_spaced-requires
put_spaced-requires c = room_behind c.put_one.ensures (rw (← append_assoc) at c.requires)

pub returns : goal.returns
returns c = rw (← append_assoc) (wrote_both c.put_one.ensures c.put_spaced.ensures)

-- `put_one` meets its contract: a word, then a space and the number.
use Rattle.printed.proofs.Laws.{room_behind, wrote_both}
use Rattle.printed.proofs.Page.put_one.Goals as goal

pub put_spaced-requires : goal.put_spaced-requires
put_spaced-requires c = room_behind c.put_bytes.ensures c.requires

pub returns : goal.returns
returns c = wrote_both c.put_bytes.ensures c.put_spaced.ensures

-- `put_answer` meets its contract: each arm has its words; here the word and the ids that were handed back.
use Rattle.printed.specs.Printed.{in_words}
use Rattle.printed.proofs.Laws.{room_behind, wrote_both}
use Rattle.printed.proofs.Page.put_answer.Goals as goal

pub put_ids-requires : goal.put_ids-requires
unfolding in_words
put_ids-requires c = room_behind c.put_bytes-in-Back.ensures (rw c.in-Back.is at c.requires)

pub returns-in-Back : goal.returns-in-Back
unfolding in_words
returns-in-Back c = rw c.in-Back.is (wrote_both c.put_bytes-in-Back.ensures c.put_ids.ensures)

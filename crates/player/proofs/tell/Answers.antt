-- `tell` meets its contract: a line is at most 5,500 bytes long.
use Rattle.std.proofs.Common.{le_trans, rules}
use Rattle.printed.proofs.Laws.{line_fits}
use Rattle.player.proofs.Turned.{line_shows}
use Rattle.player.proofs.tell.Goals as goal

pub put_line-written-requires : goal.put_line-written-requires
put_line-written-requires c = le_trans (line_fits _ _ _ c.requires) (search rules)

pub returns : goal.returns
returns c = line_shows c.args.number c.args.done _ _ _ _ c.put_line-written.ensures.value c.put_line-written.ensures.out_after c.requires

-- `pool::every::every` meets its contract, whatever test it is: one entry more at each turn. Assumes nothing.
use Rattle.std.proofs.Common.{ap, ◌∙◌, rules}
use Rattle.std.proofs.lemmas.List.{get_or_read}
use Rattle.basics.proofs.All.{all_none, all_again, all_done}
use Rattle.pool.proofs.every.every.Goals as goal

pub loop-entry-init : goal.loop-entry-init
loop-entry-init g c test none law = all_none _

pub loop-entry-preserved : goal.loop-entry-preserved
loop-entry-preserved g c test none law = all_again _ _ (c.loop-entry.invariant test none law) (law _ _ c.passes-ok.ensures ∙ ap test (get_or_read c.args.entries.now _ _ (search rules) c.entry-item.is none))

pub returns : goal.returns
returns g c test none law = all_done _ (c.loop-entry.invariant test none law) (search rules)

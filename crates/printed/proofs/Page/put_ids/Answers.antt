-- `put_ids` meets its contract: each turn writes the next id.
use Rattle.std.proofs.lemmas.Iterator.{YieldsList-from_slice, YieldsList-from_take}
use Rattle.std.proofs.lemmas.Iterator.Consumers.{YieldsList-so_far, YieldsList-turn, YieldsList-end}
use Rattle.std.proofs.lemmas.List.{map-append}
use Rattle.printed.proofs.Laws.{wrote_none, spaced_room, spaced_more}
use Rattle.printed.proofs.Page.put_ids.Goals as goal

pub loop-id-init : goal.loop-id-init
loop-id-init c = wrote_none _

pub put_spaced-requires : goal.put_spaced-requires
put_spaced-requires c =
    let e = YieldsList-from_take c.args.n (YieldsList-from_slice c.args.ids.now cc) cc in
    let y = c.loop-id.yielded_by in
    let t = YieldsList-turn e c.loop-id.yielded _ y _ _ c.in-Some.id c.in-Some.is c.next.ensures.steps in
    spaced_room _ _ _ t.0 t.1 (rw (YieldsList-so_far e c.loop-id.yielded _ y) at c.loop-id.invariant) c.requires

pub loop-id-preserved : goal.loop-id-preserved
loop-id-preserved c = rw map-append (spaced_more _ _ c.loop-id.invariant c.put_spaced.ensures)

pub returns : goal.returns
returns c =
    let e = YieldsList-from_take c.args.n (YieldsList-from_slice c.args.ids.now cc) cc in
    let t = YieldsList-end e c.loop-id.yielded _ c.loop-id.yielded_by _ _ c.in-None.is c.next.ensures.steps in
    rw (← t.0) c.loop-id.invariant

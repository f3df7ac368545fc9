-- `step` meets its contract: what `advance` answers and lists is what is printed.
use Rattle.rules.specs.Calls.{call, list_of}
use Rattle.player.proofs.Turned.{told_shows}
use Rattle.player.proofs.step.Goals as goal

pub returns : goal.returns
unfolding call list_of
returns c =
    let d = c.advance-done in
    told_shows _ d.result _ _ _ d.ensures.outcome d.ensures.list c.tell.ensures

-- `give` meets its contract: the ids are the line's numbers after the first, which is the worker.
use Rattle.std.proofs.Common.{refl, ap, ◌∙◌}
use Rattle.pool.specs.Begins.{give_up_of}
use Rattle.rules.specs.Calls.{call, list_of}
use Rattle.player.proofs.Turned.{told_shows, numbers_within, numbers_after}
use Rattle.player.proofs.give.Goals as goal

pub slice_bounds-give_up-end : goal.slice_bounds-give_up-end
slice_bounds-give_up-end c = numbers_within _ _ _ _ c.requires.0 c.requires.1 c.numbers_in-n.ensures.0 c.numbers_in-n.ensures.1

pub returns : goal.returns
unfolding call list_of
returns c =
    let n = c.numbers_in-n in
    let ids = numbers_after _ _ _ _ c.requires.0 c.requires.1 n.ensures.0 n.ensures.1 c.requires.2 in
    told_shows _ c.give_up.result _ _ _ (c.give_up.ensures ∙ ap (give_up_of _ _) ids) refl c.tell.ensures

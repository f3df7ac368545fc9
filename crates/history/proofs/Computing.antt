-- Every definition that a history computes by, with those of the run itself: to unfold `hearing` is to unfold them all. Assumes nothing.
use Rattle.rules.proofs.Computing.{computing}
use Rattle.history.specs.States.{is_accepted, handed_back, heard}
use Rattle.history.specs.Holds.{changed, is_posted, begins_post, held_by, completes_post, heard_posts}
use Rattle.history.specs.Counts.{given_up_by, sum_below, in_slots, in_sets}
use Rattle.history.specs.History.{tells, history_after}

unfoldable pub hearing : Unit {0}
unfolding computing is_accepted handed_back heard changed is_posted begins_post held_by completes_post heard_posts given_up_by sum_below in_slots in_sets tells history_after
hearing = tt

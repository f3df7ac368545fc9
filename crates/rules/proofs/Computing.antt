-- Every definition that a run of calls computes by. To unfold `computing` is to unfold them all, so that a run's proof names it alone. Assumes nothing.
use Rattle.basics.specs.Pick.{when, unless}
use Rattle.basics.specs.Below.{all_below, any_below, count_below, table}
use Rattle.idset.specs.Members.{digit, is_id, member_of, pack, word_of, set_of, no_ids, with_of, without_of, size_of, within_of, ids_of, above, members_of}
use Rattle.worker.specs.Steps.{at22}
use Rattle.pool.specs.Answers.{first, first_below, after_check}
use Rattle.pool.specs.Sound.{counts_check, beyond_check, kinds_check, ids_check, registers_check, sound_check, sound_of}
use Rattle.pool.specs.Checks.{worker_check, begin_check, guard_check, id_check, fire_check, post_check, entry_check, give_up_check, take_check, ask_check}
use Rattle.pool.specs.Begins.{hire_of, fire_of, post_of, give_up_of, take_of, ask_of}
use Rattle.pool.specs.Steps.{puts, ends, line2, line18, line28, line_of, hand_check, line_check, stand_check, advance_check, advance_of, handed, list_after_check, list_after}
use Rattle.rules.specs.Calls.{call, list_of, after, seen}

unfoldable pub computing : Unit {0}
unfolding when unless all_below any_below count_below table digit is_id member_of pack word_of set_of no_ids with_of without_of size_of within_of ids_of above members_of at22 first first_below after_check counts_check beyond_check kinds_check ids_check registers_check sound_check sound_of worker_check begin_check guard_check id_check fire_check post_check entry_check give_up_check take_check ask_check hire_of fire_of post_of give_up_of take_of ask_of puts ends line2 line18 line28 line_of hand_check line_check stand_check advance_check advance_of handed list_after_check list_after call list_of after seen
computing = tt

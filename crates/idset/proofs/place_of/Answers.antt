-- The place of an id, and none for what is no id.
use Rattle.std.proofs.Common.{arith, refl}
use Rattle.basics.proofs.Picks.{when_yes, when_no}
use Rattle.basics.proofs.Truth.{is_false}
use Rattle.idset.specs.Members.{place_of}
use Rattle.idset.proofs.Members.{id_true, too_low, too_high}
use Rattle.idset.proofs.place_of.Goals as goal

pub returns-in-1-to-256-clause-place : goal.returns-in-1-to-256-clause-place
unfolding place_of
returns-in-1-to-256-clause-place c = when_yes _ _ _ _ (id_true c.args.id (omega arith) (omega arith)) refl

pub returns-in_default-clause-place : goal.returns-in_default-clause-place
unfolding place_of
returns-in_default-clause-place c = search (when_no, is_false, too_low, too_high)

pub returns-in_default-2-clause-place : goal.returns-in_default-2-clause-place
unfolding place_of
returns-in_default-2-clause-place c = search (when_no, is_false, too_low, too_high)

-- The word by word largest of the sets so far is within the limit exactly when each of them is.
use Rattle.std.proofs.Common.{◌≡◌}
use Rattle.basics.specs.Below.{all_below}
use Rattle.idset.specs.Members.{within_of}
use Rattle.idset.proofs.Members.{Formed}
use Rattle.pool.specs.ForProofs.Scans.{set_within}
use Rattle.pool.proofs.sound.sets_within.Given as goal

abbrev pub invariant-loop-set : goal.invariant-loop-set
invariant-loop-set l = Formed l.tops × (within_of l.tops l.limit ≡ all_below l.set-index (set_within l.fn.sets l.limit))

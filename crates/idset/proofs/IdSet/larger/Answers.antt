-- Word by word the larger of the two.
use Rattle.idset.specs.Members.{larger_of}
use Rattle.idset.proofs.IdSet.larger.Goals as goal

pub returns : goal.returns
unfolding larger_of
returns c = rw (c.max.ensures, c.max-2.ensures, c.max-3.ensures, c.max-4.ensures)

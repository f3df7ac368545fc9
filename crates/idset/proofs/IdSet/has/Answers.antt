-- The word's mark at the id's place tells.
use Rattle.idset.proofs.Words.{has_at, has_nowhere}
use Rattle.idset.proofs.IdSet.has.Goals as goal

pub returns-in-Some : goal.returns-in-Some
returns-in-Some c = search has_at

pub returns-in-None : goal.returns-in-None
returns-in-None c = search has_nowhere

-- One word changes in one mark; none for an id that has no place.
use Rattle.idset.proofs.Members.{Formed, formed_of}
use Rattle.idset.proofs.Words.{with_at, with_nowhere}
use Rattle.idset.proofs.IdSet.with.Goals as goal

pub returns-in-Some : goal.returns-in-Some
returns-in-Some c = let formed : Formed c.args.self = search formed_of in search with_at

pub returns-in_default : goal.returns-in_default
returns-in_default c = let formed : Formed c.args.self = search formed_of in search with_nowhere

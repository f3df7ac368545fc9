-- One word changes in one mark; none for an id that has no place.
use Rattle.idset.proofs.Members.{Formed, formed_of}
use Rattle.idset.proofs.Words.{without_at, without_nowhere}
use Rattle.idset.proofs.IdSet.without.Goals as goal

pub returns-in-Some : goal.returns-in-Some
returns-in-Some c = let formed : Formed c.args.self = search formed_of in search without_at

pub returns-in_default : goal.returns-in_default
returns-in_default c = let formed : Formed c.args.self = search formed_of in search without_nowhere

-- The marks of the four words are the members.
use Rattle.idset.proofs.Members.{Formed, formed_of}
use Rattle.idset.proofs.Size.{size_words}
use Rattle.idset.proofs.IdSet.size.Goals as goal

pub returns : goal.returns
returns c = let formed : Formed c.args.self = search formed_of in size_words _ formed

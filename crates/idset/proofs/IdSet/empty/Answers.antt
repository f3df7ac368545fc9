-- The four words packed from no mark are 0.
use Rattle.std.proofs.Common.{refl}
use Rattle.idset.specs.Members.{no_ids, set_of, word_of, pack}
use Rattle.idset.proofs.IdSet.empty.Goals as goal

pub returns : goal.returns
unfolding no_ids set_of word_of pack
returns c = refl

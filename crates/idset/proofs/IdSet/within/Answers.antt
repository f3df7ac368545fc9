-- Each word has no mark above the limit exactly when every member is at most it.
use Rattle.idset.proofs.Members.{Formed, formed_of}
use Rattle.idset.proofs.Within.{within_words}
use Rattle.idset.proofs.IdSet.within.Goals as goal

pub returns : goal.returns
returns c =
    let formed : Formed c.args.self = search formed_of in
    rw (c.clear_above.ensures, c.clear_above-2.ensures, c.clear_above-3.ensures, c.clear_above-4.ensures) (within_words _ _ formed)

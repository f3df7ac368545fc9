-- `put_bytes` meets its contract: the part behind what is written becomes the text.
use Rattle.std.proofs.Common.{refl, arith}
use Rattle.printed.proofs.Laws.{part_becomes}
use Rattle.printed.proofs.Page.put_bytes.Goals as goal

pub returns : goal.returns
returns c = record { same_reference = refl; at = refl; bytes = part_becomes _ _ _ _ _ c.requires.fits (omega arith) c.copy_from_slice.ensures.after }

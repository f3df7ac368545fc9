-- `put_number` meets its contract: what the library writes of a number are its digits.
use Rattle.printed.proofs.Laws.{decimal_is}
use Rattle.printed.proofs.Page.put_number.Goals as goal

pub put_bytes-requires : goal.put_bytes-requires
put_bytes-requires c = rw (c.as_bytes.ensures.value, c.format.ensures.text, ← decimal_is c.args.n c.ranges.n.fits) c.requires

pub returns : goal.returns
returns c = rw (c.as_bytes.ensures.value, c.format.ensures.text, ← decimal_is c.args.n c.ranges.n.fits) at c.put_bytes.ensures

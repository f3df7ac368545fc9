-- `pool::Pool::own_line` meets its contract: what it lends and reads is the record's. Assumes nothing.
use Rattle.std.proofs.Common.{refl}
use Rattle.pool.specs.Steps.{puts}
use Rattle.pool.proofs.Pool.own_line.Goals as goal

pub returns : goal.returns
unfolding puts
returns c = rw (c.advance_lent.ensures.0, c.has-member.ensures, c.posted_at-posted.ensures, c.slot_at-slot.ensures) refl

-- A shift by the room above the limit leaves nothing exactly when the word is below that power; the two ends are no shifts.
use Rattle.std.proofs.Common.{◌-◌, sym, rules}
use Rattle.idset.proofs.Within.{clear_whole, clear_shifted}
use Rattle.idset.proofs.clear_above.Goals as goal

pub returns-then-room-ge64 : goal.returns-then-room-ge64
returns-then-room-ge64 c = sym (clear_whole _ _ (search rules) c.if-room-ge64.true)

pub returns-else-room-ge64 : goal.returns-else-room-ge64
returns-else-room-ge64 c = sym (clear_shifted c.args.word (c.args.limit - c.args.base))

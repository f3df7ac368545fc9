-- After k turns, counted from 1, the part stands there k times.
use Rattle.std.proofs.Common.{◌-◌, ◌≡◌, ◌+◌, length}
use Rattle.std.specs.List.{repeat, slice_range}
use Rattle.tables.specs.Write.{write_at}
use Rattle.tables.proofs.repeat_part.Given as goal

abbrev pub invariant-loop-k : goal.invariant-loop-k
invariant-loop-k l = (length l.t ≡ length l.fn.t) × (l.t ≡ write_at l.fn.t (l.from + l.m) (repeat (l.k - 1) (slice_range l.fn.t l.from (l.from + l.m))))

-- The ids so far are written.
use Rattle.std.proofs.Common.{map}
use Rattle.std.specs.List.{flat_map}
use Rattle.printed.specs.Printed.{spaced}
use Rattle.printed.specs.Page.{Wrote}
use Rattle.printed.proofs.Page.put_ids.Given as goal

abbrev pub invariant-loop-id : goal.invariant-loop-id
invariant-loop-id l = Wrote l.initial.self l.self (flat_map spaced (map (λ y. y.now) l.yielded))

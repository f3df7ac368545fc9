-- The trailing zeros of what is left after the shift.
use Rattle.std.proofs.Common.{rules}
use Rattle.idset.proofs.NextMark.{next_past, next_none, next_some}
use Rattle.idset.proofs.next_mark.Goals as goal

pub returns-then-from-ge64 : goal.returns-then-from-ge64
returns-then-from-ge64 c = next_past c.args.word c.args.from c.if-from-ge64.true

pub returns-then-rest-eq0 : goal.returns-then-rest-eq0
returns-then-rest-eq0 c = next_none c.args.word c.args.from c.if-rest-eq0.true

pub returns : goal.returns
returns c = next_some c.args.word c.args.from (search rules) c.if-rest-eq0.false

-- `repeat_part` meets its contract: after k turns, counted from 1, the part stands there k times.
use Rattle.std.proofs.Common.{rules, arith}
use Rattle.tables.proofs.Laws.{repeat_first, repeat_on, repeat_none}
use Rattle.tables.proofs.repeat_part.Goals as goal

pub returns-then-m-eq0 : goal.returns-then-m-eq0
returns-then-m-eq0 c = repeat_none _ _ _ _ c.if-m-eq0.true

pub loop-k-init : goal.loop-k-init
loop-k-init c = (search rules, repeat_first _ _ _)

pub loop-k-preserved : goal.loop-k-preserved
loop-k-preserved c = (omega (arith, c.copy_within.ensures.len), repeat_on c.args.t.now c.args.from c.args.m _ _ _ c.args.n (omega arith) (omega arith) c.requires.1 c.loop-k.invariant.1 c.copy_within.ensures.after)

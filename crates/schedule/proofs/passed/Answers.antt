-- `passed` meets its contract: the end sought is the same from each place passed, with the blocks open there.
use Rattle.std.proofs.Common.{arith, rules}
use Rattle.schedule.proofs.Seek.{seek_none, seek_here, seek_on}
use Rattle.schedule.proofs.passed.Goals as goal

pub returns-then-opens-eq0 : goal.returns-then-opens-eq0
returns-then-opens-eq0 c =
    let l = c.loop-i in
    seek_here _ l.i l.opens _ l.invariant.2 c.loop-i-test.true _ c.eq.result c.kind_at-kind.ensures (search rules) _ c.if-eq.true c.if-opens-eq0.true c.after-next.ensures

pub loop-i-smaller : goal.loop-i-smaller
loop-i-smaller c =
    let l = c.loop-i in
    let w = seek_on _ l.i l.opens _ l.invariant.2 c.loop-i-test.true _ c.eq.result c.kind_at-kind.ensures (search rules) _ _ c.else-eq.either c.after-next.ensures c.opened-opens.ensures l.invariant.1 in
    omega arith

pub loop-i-preserved : goal.loop-i-preserved
loop-i-preserved c =
    let l = c.loop-i in
    let w = seek_on _ l.i l.opens _ l.invariant.2 c.loop-i-test.true _ c.eq.result c.kind_at-kind.ensures (search rules) _ _ c.else-eq.either c.after-next.ensures c.opened-opens.ensures l.invariant.1 in
    (w.1, w.2, w.3)

pub returns : goal.returns
returns c = let l = c.loop-i in seek_none _ l.i l.opens _ l.invariant.2 c.loop-i-test.false l.invariant.0

-- The block reader and the line reader meet their contracts: what was read of a block and what is left of it make the whole, and a line is read by its kind.
use Rattle.std.proofs.Common.{sym, ◌∙◌, arith}
use Rattle.schedule.proofs.Turns.{turn_end, turn_within, turn_on, said_none, said_call, said_other, said_deep, said_closed, said_open, next_in, inner_in}
use Rattle.schedule.proofs.Falls.{block_falls}
use Rattle.schedule.proofs.+block_line.Goals as goal

pub block-loop-got-smaller : goal.block-loop-got-smaller
block-loop-got-smaller t c =
    let w = turn_within _ _ c.loop-got.got _ (sym c.has_line.ensures ∙ c.loop-got-test.true) c.line.ensures in
    rw c.then-got.ensures (omega arith)

pub block-loop-got-preserved : goal.block-loop-got-preserved
block-loop-got-preserved t c =
    let l = c.loop-got in
    let on = sym c.has_line.ensures ∙ c.loop-got-test.true in
    let w = turn_within _ _ l.got _ on c.line.ensures in
    rw c.then-got.ensures (w.1, omega arith, turn_on _ _ l.got c.line.result on c.line.ensures _ l.invariant.2, omega arith)

pub block-returns : goal.block-returns
block-returns t c =
    let l = c.loop-got in
    turn_end _ _ l.got _ (sym c.has_line.ensures ∙ c.loop-got-test.false) l.invariant.1 l.invariant.2

pub line-passed-requires : goal.line-passed-requires
line-passed-requires t c = next_in _ _ c.args.depth _ c.after-next.ensures c.requires

pub line-block-inner-requires : goal.line-block-inner-requires
line-block-inner-requires t c =
    (block_falls _ _ _ _ _ c.decreases c.after-next.ensures c.requires (omega arith), next_in _ _ c.args.depth _ c.after-next.ensures c.requires)

pub line-after-requires : goal.line-after-requires
line-after-requires t c = inner_in _ _ c.args.depth _ c.after-next.ensures c.block-inner.result c.requires c.block-inner.ensures

pub line-returns-in_default : goal.line-returns-in_default
line-returns-in_default t c = said_none _ _ _ _ c.after-next.ensures c.in_default.ensures

pub line-returns-in_default-kind : goal.line-returns-in_default-kind
line-returns-in_default-kind t c = said_other _ _ _ _ c.after-next.ensures _ c.in-Some.ensures c.in_default-kind.not-Call c.in_default-kind.not-Repeat

pub line-returns-in-Call : goal.line-returns-in-Call
line-returns-in-Call t c = said_call _ _ _ _ c.after-next.ensures _ c.in-Some.ensures c.in-Call.is

pub line-returns-in-Repeat : goal.line-returns-in-Repeat
line-returns-in-Repeat t c = said_deep _ _ _ _ c.after-next.ensures _ c.in-Some.ensures _ _ c.in-Repeat.is c.if-depth-eq0.true c.passed.ensures

pub line-returns-then-inner-s : goal.line-returns-then-inner-s
line-returns-then-inner-s t c =
    said_open _ _ _ _ c.after-next.ensures _ c.in-Some.ensures _ c.block-inner.result c.in-Repeat-2.is c.if-depth-eq0.false c.block-inner.ensures (omega arith)

pub line-returns-else-inner-s : goal.line-returns-else-inner-s
line-returns-else-inner-s t c =
    let w = inner_in _ _ c.args.depth _ c.after-next.ensures c.block-inner.result c.requires c.block-inner.ensures in
    said_closed _ _ _ _ c.after-next.ensures _ c.in-Some.ensures _ c.block-inner.result c.in-Repeat-2.is c.if-depth-eq0.false c.block-inner.ensures _ _ (omega arith) c.after.ensures
    (omega (arith, c.saturating_mul.ensures, c.min.ensures))

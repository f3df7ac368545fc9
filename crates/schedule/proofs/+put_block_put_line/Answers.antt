-- The second pass meets its contracts: what is written of a block's calls and what is left of them make the whole, and a line is written by its kind.
use Rattle.std.proofs.Common.{sym, ◌∙◌, arith}
use Rattle.schedule.proofs.Blocks.{block_goes}
use Rattle.schedule.proofs.Puts.{going_end, going_room, going_ready, going_on, going_within, put_none, call_room, put_call, put_other, deep, inner_ready, start_in, part_ready, end_within, put_repeat}
use Rattle.schedule.proofs.Falls.{line_falls, block_falls}
use Rattle.schedule.proofs.+put_block_put_line.Goals as goal

pub put_block-put_line-more-requires : goal.put_block-put_line-more-requires
put_block-put_line-more-requires t c =
    let l = c.loop-t in
    let on = sym c.has_line.ensures ∙ c.loop-t-test.true in (
      line_falls c.args.s.now _ _ _ _ c.decreases l.invariant.2,
      (block_goes _ _ c.args.depth on, going_ready _ _ _ _ l.t l.p l.invariant.1 on c.requires.1.short c.requires.1.room),
    )

pub put_block-overflow_add-p : goal.put_block-overflow_add-p
put_block-overflow_add-p t c =
    let l = c.loop-t in
    let room = going_room _ _ _ _ l.t l.p l.invariant.1 (sym c.has_line.ensures ∙ c.loop-t-test.true) c.requires.1.short c.requires.1.room in
    rw c.put_line-more.ensures.0 (omega arith)

pub put_block-loop-t-smaller : goal.put_block-loop-t-smaller
put_block-loop-t-smaller t c =
    let l = c.loop-t in
    let w = going_within _ _ _ _ l.t l.p l.invariant.1 (sym c.has_line.ensures ∙ c.loop-t-test.true) c.put_line-more.result c.put_line-more.ensures.0 in
    omega arith

pub put_block-loop-t-preserved : goal.put_block-loop-t-preserved
put_block-loop-t-preserved t c =
    let l = c.loop-t in
    let on = sym c.has_line.ensures ∙ c.loop-t-test.true in
    let w = going_within _ _ _ _ l.t l.p l.invariant.1 on c.put_line-more.result c.put_line-more.ensures.0 in
    (w.1, going_on _ _ _ _ l.t l.p l.invariant.1 on c.requires.1.short c.requires.1.room _ c.put_line-more.result c.put_line-more.ensures.0 c.put_line-more.ensures.1, omega arith)

pub put_block-returns : goal.put_block-returns
put_block-returns t c =
    let l = c.loop-t in
    going_end _ _ _ _ l.t l.p l.invariant.1 (sym c.has_line.ensures ∙ c.loop-t-test.false)

pub put_line-returns-in_default : goal.put_line-returns-in_default
put_line-returns-in_default t c = put_none _ _ _ _ c.after-next.result c.requires.0 c.requires.1 c.after-next.ensures c.in_default.ensures

pub put_line-bounds-t-0 : goal.put_line-bounds-t-0
put_line-bounds-t-0 t c = call_room _ _ _ _ c.after-next.result c.requires.0 c.requires.1 c.after-next.ensures _ c.in-Some.ensures c.in-Call.is

pub put_line-returns-in-Call : goal.put_line-returns-in-Call
put_line-returns-in-Call t c = put_call _ _ _ _ c.after-next.result c.requires.0 c.requires.1 c.after-next.ensures _ c.in-Some.ensures c.in-Call.is

pub put_line-overflow_sub-depth : goal.put_line-overflow_sub-depth
put_line-overflow_sub-depth t c =
    let w = deep _ _ _ _ c.after-next.result c.requires.0 c.requires.1 c.after-next.ensures _ c.in-Some.ensures _ c.in-Repeat.is in
    omega arith

pub put_line-put_block-p-requires : goal.put_line-put_block-p-requires
put_line-put_block-p-requires t c =
    let w = deep _ _ _ _ c.after-next.result c.requires.0 c.requires.1 c.after-next.ensures _ c.in-Some.ensures _ c.in-Repeat.is in (
      block_falls _ _ _ _ _ c.decreases c.after-next.ensures c.requires.0 w,
      (
        start_in _ _ _ _ c.after-next.result c.requires.0 c.requires.1 c.after-next.ensures _ c.in-Some.ensures _ c.in-Repeat.is,
        inner_ready _ _ _ _ c.after-next.result c.requires.0 c.requires.1 c.after-next.ensures _ c.in-Some.ensures _ c.in-Repeat.is,
      ),
    )

pub put_line-after-requires : goal.put_line-after-requires
put_line-after-requires t c =
    end_within _ _ _ _ c.after-next.result c.requires.0 c.requires.1 c.after-next.ensures _ c.in-Some.ensures _ c.in-Repeat.is c.put_block-p.result _ c.put_block-p.ensures.0 c.put_block-p.ensures.1

pub put_line-repeat_part-requires : goal.put_line-repeat_part-requires
put_line-repeat_part-requires t c =
    part_ready _ _ _ _ c.after-next.result c.requires.0 c.requires.1 c.after-next.ensures _ c.in-Some.ensures _ c.in-Repeat.is c.put_block-p.result _ c.put_block-p.ensures.0 c.put_block-p.ensures.1

pub put_line-returns-in-Repeat : goal.put_line-returns-in-Repeat
put_line-returns-in-Repeat t c =
    put_repeat _ _ _ _ c.after-next.result c.requires.0 c.requires.1 c.after-next.ensures _ c.in-Some.ensures _ c.in-Repeat.is c.put_block-p.result _ c.put_block-p.ensures.0 c.put_block-p.ensures.1
    _ _ _ c.after.ensures c.repeat_part.ensures.0 c.repeat_part.ensures.1

pub put_line-returns-in_default-kind : goal.put_line-returns-in_default-kind
put_line-returns-in_default-kind t c =
    put_other _ _ _ _ c.after-next.result c.requires.0 c.requires.1 c.after-next.ensures _ c.in-Some.ensures c.in_default-kind.not-Call c.in_default-kind.not-Repeat

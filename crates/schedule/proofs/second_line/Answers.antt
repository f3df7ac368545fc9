-- `second_line` meets its contract: which text is played, by what its calls ensure.
use Rattle.std.proofs.Common.{ap, ◌∙◌, rules, arith}
use Rattle.std.specs.Option.{option_or}
use Rattle.schedule.proofs.Whole.{read_long, read_first, start_within, fault_within, read_bad, read_many, playable}
use Rattle.schedule.proofs.second_line.Goals as goal

pub returns-then-s-gt16384 : goal.returns-then-s-gt16384
returns-then-s-gt16384 c = read_long _ c.if-s-gt16384.true

pub returns-then-ne : goal.returns-then-ne
returns-then-ne c = read_first _ c.if-s-gt16384.false _ c.ne.result c.kind_at.ensures (search rules) c.if-ne.true

pub block-got-requires : goal.block-got-requires
block-got-requires c = start_within _ c.if-s-gt16384.false _ c.ne.result c.kind_at.ensures (search rules) c.if-ne.false _ c.after-second.ensures

pub number_of-requires : goal.number_of-requires
number_of-requires c =
    fault_within _ c.if-s-gt16384.false _ c.ne.result c.kind_at.ensures (search rules) c.if-ne.false _ c.after-second.ensures
    c.block-got.result c.or.result c.block-got.ensures (c.or.ensures ∙ ap (option_or c.block-got.result.fault) c.then_some-stray_end.ensures) _ c.in-Some.is

pub returns-in-Some : goal.returns-in-Some
returns-in-Some c =
    read_bad _ c.if-s-gt16384.false _ c.ne.result c.kind_at.ensures (search rules) c.if-ne.false _ c.after-second.ensures
    c.block-got.result c.or.result c.block-got.ensures (c.or.ensures ∙ ap (option_or c.block-got.result.fault) c.then_some-stray_end.ensures) _ _ c.in-Some.is c.number_of.ensures

pub returns-then-got-ge100000 : goal.returns-then-got-ge100000
returns-then-got-ge100000 c =
    read_many _ c.if-s-gt16384.false _ c.ne.result c.kind_at.ensures (search rules) c.if-ne.false _ c.after-second.ensures
    c.block-got.result c.or.result c.block-got.ensures (c.or.ensures ∙ ap (option_or c.block-got.result.fault) c.then_some-stray_end.ensures) c.in_default.is (omega arith)

pub returns : goal.returns
returns c =
    playable _ c.if-s-gt16384.false _ c.ne.result c.kind_at.ensures (search rules) c.if-ne.false _ c.after-second.ensures
    c.block-got.result c.or.result c.block-got.ensures (c.or.ensures ∙ ap (option_or c.block-got.result.fault) c.then_some-stray_end.ensures) c.in_default.is (omega arith)

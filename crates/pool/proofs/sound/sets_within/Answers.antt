-- `pool::sound::sets_within` meets its contract: one set more at each turn. Assumes nothing.
use Rattle.std.proofs.Common.{[], get_or, refl, ◌∙◌, rules}
use Rattle.basics.proofs.All.{all_none, all_again, all_done}
use Rattle.idset.proofs.Members.{Formed, none_formed}
use Rattle.idset.proofs.Arrays.{formed_each}
use Rattle.idset.proofs.Within.{none_within, larger_formed, within_larger}
use Rattle.pool.proofs.sound.sets_within.Goals as goal

pub loop-set-init : goal.loop-set-init
loop-set-init c = (rw c.empty-tops.ensures none_formed, rw c.empty-tops.ensures (none_within _ ∙ all_none _))

pub loop-set-preserved : goal.loop-set-preserved
loop-set-preserved c =
    let so_far = c.loop-set.invariant in
    let entry : Formed (get_or c.args.sets c.loop-set.set-index (record { words = [] })) = formed_each c.args.sets _ _ _ c.well_formed.0 c.loop-set-test.true in (
      rw c.larger-tops.ensures (larger_formed so_far.0 entry),
      rw c.larger-tops.ensures (within_larger _ _ _ so_far.0 entry ∙ all_again _ _ so_far.1 refl),
    )

pub returns : goal.returns
returns c = c.within.ensures ∙ all_done _ c.loop-set.invariant.1 (search rules)

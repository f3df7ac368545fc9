-- `pool::Pool::line32` meets its contract: what the hand-back's check finds at each exit, and what its loops made of the record. Assumes nothing.
use Rattle.std.proofs.Common.{◌≡◌, length, refl, ◌∙◌, rules}
use Rattle.pool.proofs.Told.{after_is, after_stops, same_refused}
use Rattle.pool.proofs.Back.{list_is, list_stops, not_all_leaving, too_short, hands, handed_back_lem}
use Rattle.pool.proofs.Pool.line32.Goals as goal

pub returns-then-not-all_leaving-clause-outcome : goal.returns-then-not-all_leaving-clause-outcome
returns-then-not-all_leaving-clause-outcome c =
    same_refused _ 14 _ 0 _ _ c.at.ensures.refusal c.at.ensures.place refl
    ∙ after_stops _ _ (not_all_leaving _ c.args.self.now _ _ c.all_leaving.ensures c.if-not-all_leaving.true)

pub returns-then-not-all_leaving-clause-list : goal.returns-then-not-all_leaving-clause-list
returns-then-not-all_leaving-clause-list c = list_stops _ _ (not_all_leaving _ c.args.self.now _ _ c.all_leaving.ensures c.if-not-all_leaving.true)

pub returns-then-out-size-clause-outcome : goal.returns-then-out-size-clause-outcome
returns-then-out-size-clause-outcome c =
    same_refused _ 13 _ 0 _ _ c.at-then-out-size.ensures.refusal c.at-then-out-size.ensures.place refl
    ∙ after_stops _ _ (too_short _ c.args.self.now _ _ c.all_leaving.ensures c.if-not-all_leaving.false _ c.size-size.ensures c.if-out-size.true)

pub returns-then-out-size-clause-list : goal.returns-then-out-size-clause-list
returns-then-out-size-clause-list c =
    list_stops _ _ (too_short _ c.args.self.now _ _ c.all_leaving.ensures c.if-not-all_leaving.false _ c.size-size.ensures c.if-out-size.true)

pub returns-clause-outcome : goal.returns-clause-outcome
returns-clause-outcome c =
    let long : length c.args.self.now.states ≡ 256 = search rules in
    let free = rw long at c.hand.ensures.freed in
    after_is _ _ (hands _ c.args.self.now _ _ c.all_leaving.ensures c.if-not-all_leaving.false _ c.size-size.ensures c.if-out-size.false)
    (c.ends.ensures ∙ handed_back_lem c.args.k.at c.args.self.now (length c.args.out.now) _ _ c.size-size.ensures free)

pub returns-clause-list : goal.returns-clause-list
returns-clause-list c =
    list_is _ _ (hands _ c.args.self.now _ _ c.all_leaving.ensures c.if-not-all_leaving.false _ c.size-size.ensures c.if-out-size.false) c.hand.ensures.list

-- `pool::Pool::line28` meets its contract: nothing to collect, no version left, or the buffer collected. Assumes nothing.
use Rattle.std.proofs.Common.{◌∙◌}
use Rattle.pool.proofs.Told.{after_is, after_on, after_fine}
use Rattle.pool.proofs.Slots.{stores_check, stores_none, collects_it, passes}
use Rattle.pool.proofs.Pool.line28.Goals as goal

pub returns-then-not-collects : goal.returns-then-not-collects
returns-then-not-collects c =
    let none = rw (c.eq.ensures, c.slot_at.ensures) at c.if-not-collects.true in
    after_is c.args.self.now _ (stores_none c.args.k.at c.args.self.now _ none) (c.goes.ensures ∙ passes c.args.k.at c.args.self.now none)

pub returns-in_err-fill : goal.returns-in_err-fill
returns-in_err-fill c =
    let same = rw (c.eq.ensures, c.slot_at.ensures) at c.if-not-collects.false in
    let check = c.fill.ensures.check ∙ stores_check c.args.k.at c.args.self.now _ same in
    rw (c.in_err-fill.ensures.err) (after_on _ c.in_err-fill.was c.from_residual.ensures.1 check c.args.self.now _)

pub returns : goal.returns
returns c =
    let same = rw (c.eq.ensures, c.slot_at.ensures) at c.if-not-collects.false in
    let check = c.fill.ensures.check ∙ stores_check c.args.k.at c.args.self.now _ same in
    let made = rw (c.with.ensures, c.in_ok-fill.ensures.ok) at c.goes-2.ensures in
    after_fine c.fill.result _ _ c.args.self.now _ check c.in_ok-fill.was (made ∙ collects_it c.args.k.at c.args.self.now same)

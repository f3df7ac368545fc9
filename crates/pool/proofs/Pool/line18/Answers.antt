-- `pool::Pool::line18` meets its contract: no exchange, no version left, or the exchange. Assumes nothing.
use Rattle.std.proofs.Common.{sym, ◌∙◌}
use borrow.Author.Tests.{not-true, not-false}
use Rattle.pool.proofs.Told.{after_is, after_on, after_fine}
use Rattle.pool.proofs.Slots.{stores_check, stores_none, exchanges, fails}
use Rattle.pool.proofs.Pool.line18.Goals as goal

pub returns-then-ne : goal.returns-then-ne
returns-then-ne c =
    let changed = not-true _ (sym (rw c.slot_at.ensures at c.ne.ensures) ∙ c.if-ne.true) in
    after_is c.args.self.now _ (stores_none c.args.k.at c.args.self.now _ changed) (c.goes.ensures ∙ fails c.args.k.at c.args.self.now changed)

pub returns-in_err-fill : goal.returns-in_err-fill
returns-in_err-fill c =
    let same = not-false _ (sym (rw c.slot_at.ensures at c.ne.ensures) ∙ c.if-ne.false) in
    let check = c.fill.ensures.check ∙ stores_check c.args.k.at c.args.self.now _ same in
    rw (c.in_err-fill.ensures.err) (after_on _ c.in_err-fill.was c.from_residual.ensures.1 check c.args.self.now _)

pub returns : goal.returns
returns c =
    let same = not-false _ (sym (rw c.slot_at.ensures at c.ne.ensures) ∙ c.if-ne.false) in
    let check = c.fill.ensures.check ∙ stores_check c.args.k.at c.args.self.now _ same in
    let made = rw (c.with.ensures, c.without.ensures, c.in_ok-fill.ensures.ok) at c.goes-2.ensures in
    after_fine c.fill.result _ _ c.args.self.now _ check c.in_ok-fill.was (made ∙ exchanges c.args.k.at c.args.self.now same)

-- `pool::Pool::first_fault` meets its contract, by the laws of a count's loop and of the audit's. Assumes nothing.
use Rattle.std.proofs.Common.{sym, ◌∙◌, rules}
use Rattle.basics.proofs.Count.{tallies, tally_done}
use Rattle.pool.proofs.Audit.{rest_on, rest_none, rest_fault}
use Rattle.pool.proofs.Pool.first_fault.Goals as goal

pub loop-held-init : goal.loop-held-init
loop-held-init c = search (rules, tallies)

pub loop-held-preserved : goal.loop-held-preserved
loop-held-preserved c = rw c.from-slots.ensures (search (rules, tallies))

pub loop-k-init : goal.loop-k-init
loop-k-init c = (search rules, tally_done _ c.loop-held.invariant.1 (search rules), search rules, search rules, search tallies)

pub loop-k-preserved : goal.loop-k-preserved
loop-k-preserved c = rw c.from-sets.ensures (search (rules, tallies))

pub search-preserved : goal.search-preserved
search-preserved c =
    let sets = c.loop-k in
    let on = rest_on _ _ _ _ _ _ c.search.invariant.2 (search rules) sets.invariant.1 sets.invariant.4 sets.invariant.2 (search rules) (c.if-n-from.false ∙ c.from.ensures) in
    (search rules, search rules, on)

pub returns-then-self-id : goal.returns-then-self-id
returns-then-self-id c = search (rules, rest_none)

pub returns-then-n-from : goal.returns-then-n-from
returns-then-n-from c =
    let sets = c.loop-k in
    rest_fault _ _ _ _ _ _ c.search.invariant.2 (search rules) sets.invariant.1 sets.invariant.4 sets.invariant.2 (search rules) (λ e. c.if-n-from.true (e ∙ sym c.from.ensures))

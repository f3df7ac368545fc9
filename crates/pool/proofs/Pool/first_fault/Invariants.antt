-- What the loops of `Pool::first_fault` keep. The inner loops count the places of one id; the search keeps that what is left to audit
-- answers as the whole audit does. Assumes nothing.
use Rattle.std.proofs.Common.{◌≡◌, ◌+◌, ◌-◌, ◌≤◌}
use Rattle.pool.specs.Questions.{audit_from}
use Rattle.pool.proofs.Audit.{slots_below, sets_below, rest}
use Rattle.pool.proofs.Pool.first_fault.Given as goal

abbrev pub invariant-loop-held : goal.invariant-loop-held
invariant-loop-held l = (l.slots ≤ l.held-index) × (l.slots ≡ slots_below l.self l.id l.held-index)

abbrev pub invariant-loop-k : goal.invariant-loop-k
invariant-loop-k l =
    (l.slots ≤ 32) × (l.slots ≡ slots_below l.self l.id 32) × (l.k ≤ 8) × (l.sets ≤ l.k) × (l.sets ≡ sets_below l.self l.id l.k)

abbrev pub decreases-loop-k : goal.decreases-loop-k
decreases-loop-k l = 8 - l.k

abbrev pub invariant-search : goal.invariant-search
invariant-search l = (1 ≤ l.id) × (l.id ≤ l.self.b + 1) × (rest l.self l.id ≡ audit_from l.self l.self.b 1)

abbrev pub decreases-search : goal.decreases-search
decreases-search l = l.self.b + 1 - l.id

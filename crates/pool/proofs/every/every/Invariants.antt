-- So far every entry has passed, whatever test it is. Assumes nothing.
use Rattle.std.proofs.Common.{◌≡◌, Bool, get_or}
use Rattle.basics.specs.Below.{all_below}
use Rattle.pool.proofs.every.every.Given as goal

abbrev pub invariant-loop-entry : goal.invariant-loop-entry
invariant-loop-entry g l =
    (test : g.row.T.Denot → Bool) (none : g.row.T.Denot) → ((x : g.row.T.Denot) (b : Bool) → goal.F-post g l.passes x b → b ≡ test x)
    → l.ok ≡ all_below l.entry-index (λ k. test (get_or l.entries k none))

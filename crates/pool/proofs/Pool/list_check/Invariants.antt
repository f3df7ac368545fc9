-- The entries so far are fine, and their ids are what is marked.
use Rattle.std.proofs.Common.{◌≡◌}
use Rattle.basics.specs.Among.{among_first}
use Rattle.idset.specs.Members.{set_of}
use Rattle.pool.specs.Answers.{fine}
use Rattle.pool.specs.Checks.{list_check}
use Rattle.pool.proofs.Pool.list_check.Given as goal

abbrev pub invariant-loop-place : goal.invariant-loop-place
invariant-loop-place l = (list_check l.self l.ids l.place ≡ fine) × (l.met ≡ set_of (among_first l.ids l.place))

-- What is read fills the buffer more at each turn.
use Rattle.std.proofs.Common.{◌-◌}
use Rattle.trial.specs.declared.input.TheConstants.{CAPACITY}
use Rattle.trial.proofs.input.Lines.find_feed.Given as goal

abbrev pub decreases-loop-seen : goal.decreases-loop-seen
decreases-loop-seen g l = CAPACITY - l.self.end

-- `worker::Worker::step` meets its contract at any other label. Assumes nothing.
use Rattle.basics.proofs.Picks.{picks}
use Rattle.worker.specs.Steps.{step_of}
use Rattle.worker.proofs.Worker.step.Goals as goal

pub returns-in_default-3 : goal.returns-in_default-3
unfolding step_of
returns-in_default-3 c = search picks depth 40

-- `request_102` meets its contract: the statement is shown.
use Rattle.demands.proofs.Request102.{request_102_lem}
use Rattle.demands.proofs.request_102.Goals as goal

pub returns : goal.returns
returns c = request_102_lem

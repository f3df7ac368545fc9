-- `request_101` meets its contract: the statement is shown.
use Rattle.demands.proofs.Request101.{request_101_lem}
use Rattle.demands.proofs.request_101.Goals as goal

pub returns : goal.returns
returns c = request_101_lem

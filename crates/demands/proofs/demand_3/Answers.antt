-- `demand_3` meets its contract: the statement is shown.
use Rattle.demands.proofs.Demand3.{demand_3_lem}
use Rattle.demands.proofs.demand_3.Goals as goal

pub returns : goal.returns
returns c = demand_3_lem

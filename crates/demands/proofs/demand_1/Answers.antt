-- `demand_1` meets its contract: the statement is shown.
use Rattle.demands.proofs.Demand1.{demand_1_lem}
use Rattle.demands.proofs.demand_1.Goals as goal

pub returns : goal.returns
returns c = demand_1_lem

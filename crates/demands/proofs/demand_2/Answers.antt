-- `demand_2` meets its contract: the statement is shown.
use Rattle.demands.proofs.Demand2.{demand_2_lem}
use Rattle.demands.proofs.demand_2.Goals as goal

pub returns : goal.returns
returns c = demand_2_lem

-- `instances` meets its contract: the page gives them.
use Rattle.demands.proofs.Demand3.{demand_3_lem}
use Rattle.demands.proofs.FromThePage.{instances}
use Rattle.demands.proofs.instances.Goals as goal

pub returns : goal.returns
returns c = instances demand_3_lem

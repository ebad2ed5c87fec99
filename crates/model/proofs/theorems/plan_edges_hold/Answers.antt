use Rattle.model.proofs.theorems.plan_edges_hold.Goals as goal
use Rattle.model.proofs.Edges.{edges}

pub returns : goal.returns
returns c = edges

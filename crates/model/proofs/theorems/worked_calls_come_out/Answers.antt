use Rattle.model.proofs.theorems.worked_calls_come_out.Goals as goal
use Rattle.model.proofs.WorkedCalls.{calls_come_out}

pub returns : goal.returns
returns c = calls_come_out

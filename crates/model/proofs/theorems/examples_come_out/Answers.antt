use Rattle.model.proofs.theorems.examples_come_out.Goals as goal
use Rattle.model.proofs.Worked.{all_come_out}

pub returns : goal.returns
returns c = all_come_out

use Rattle.model.proofs.theorems.law_of_next.Goals as goal
use Rattle.model.proofs.RunLaws.{law_of_next_lem}

pub returns : goal.returns
returns c = law_of_next_lem

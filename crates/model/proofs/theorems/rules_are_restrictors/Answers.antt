use Rattle.model.proofs.theorems.rules_are_restrictors.Goals as goal
use Rattle.model.proofs.RuleLaws.{restrictors}

pub returns : goal.returns
returns c = restrictors

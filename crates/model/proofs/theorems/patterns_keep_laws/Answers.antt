use Rattle.model.proofs.theorems.patterns_keep_laws.Goals as goal
use Rattle.model.proofs.PatternLaws.{pattern_laws}

pub returns : goal.returns
returns c = pattern_laws

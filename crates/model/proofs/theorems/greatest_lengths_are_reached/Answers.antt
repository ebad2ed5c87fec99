use Rattle.model.proofs.theorems.greatest_lengths_are_reached.Goals as goal
use Rattle.model.proofs.Lengths.{lengths_reached}

pub returns : goal.returns
returns c = lengths_reached

use Rattle.model.proofs.theorems.listings_end.Goals as goal
use Rattle.model.proofs.Ends.{listings_end_lem}

pub returns : goal.returns
returns c = listings_end_lem

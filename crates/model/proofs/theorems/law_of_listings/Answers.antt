use Rattle.model.proofs.theorems.law_of_listings.Goals as goal
use Rattle.model.proofs.RunLaws.{law_of_listings_lem}

pub returns : goal.returns
returns c = law_of_listings_lem

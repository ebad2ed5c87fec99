use Rattle.route.proofs.Limits.{routes_are_short_lem}
use Rattle.route.proofs.passing.routes_are_short.Goals as goal

pub returns : goal.returns
returns c = routes_are_short_lem

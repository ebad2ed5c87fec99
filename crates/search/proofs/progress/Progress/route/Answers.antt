use Rattle.std.proofs.Common.{rules}
use Rattle.search.proofs.Trails.{fresh}
use Rattle.search.proofs.progress.Progress.route.Goals as goal

pub returns-in-AtFront : goal.returns-in-AtFront
returns-in-AtFront c = search (fresh, rules)

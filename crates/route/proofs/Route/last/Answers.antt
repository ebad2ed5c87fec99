use Rattle.std.proofs.Common.{arith}
use Rattle.route.proofs.Views.{at_start, at_step}
use Rattle.route.proofs.Route.last.Goals as goal

pub returns-then-self-eq0 : goal.returns-then-self-eq0
returns-then-self-eq0 c = at_start c.args.self.now (omega arith)

pub returns-else-self-eq0 : goal.returns-else-self-eq0
returns-else-self-eq0 c = at_step c.args.self.now (omega arith)

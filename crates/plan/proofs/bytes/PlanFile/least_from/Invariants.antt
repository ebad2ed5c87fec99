use Rattle.plan.specs.Filed.{LeastAmong}
use Rattle.plan.proofs.bytes.PlanFile.least_from.Given as goal

abbrev pub invariant-loop-body : goal.invariant-loop-body
invariant-loop-body l = LeastAmong l.self.bytes.now l.first l.body l.from l.least

use Rattle.std.proofs.Common.{refl, arith, length-set}
use Rattle.plan.specs.FiledFacts.{kept}
use Rattle.plan.proofs.Indexes.{start, more}
use Rattle.plan.proofs.bytes.PlanFile.index.Goals as goal

pub loop-body-init : goal.loop-body-init
loop-body-init c = (refl, start c.args.self.now.bytes.now)

pub loop-body-preserved : goal.loop-body-preserved
loop-body-preserved c = (simp length-set c.loop-body.invariant.0, more c.args.self.now.bytes.now (kept _ c.requires) c.loop-body.index c.loop-body.body c.body.result.number (omega (arith, c.count-body-end.ensures)) c.body.ensures.number (omega arith) c.loop-body.invariant.0 c.loop-body.invariant.1)

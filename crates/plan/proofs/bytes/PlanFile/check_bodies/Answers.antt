use Rattle.std.proofs.Common.{rules, refl}
use Rattle.plan.specs.Filed.{body_fault}
use Rattle.plan.proofs.Ranges.{try_below}
use Rattle.plan.proofs.bytes.PlanFile.check_bodies.Goals as goal

pub returns : goal.returns
returns c = try_below _ _ _ _ _ _ (body_fault c.args.self.now.bytes.now) c.try_for_each.ensures.ran refl c.count.ensures (λ x b q k. search rules)

use Rattle.std.proofs.Common.{rules, refl, ◌==◌}
use Rattle.plan.specs.Filed.{number_of}
use Rattle.plan.proofs.Ranges.{any_below}
use Rattle.plan.proofs.bytes.PlanFile.has_number.Goals as goal

pub returns : goal.returns
returns c = any_below _ _ _ _ _ _ (λ k. number_of c.args.self.now.bytes.now k == c.args.number) c.any.ensures.ran refl refl (λ x b q k. search rules)

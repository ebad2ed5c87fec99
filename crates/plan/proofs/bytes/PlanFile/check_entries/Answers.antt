use Rattle.std.proofs.Common.{rules, refl}
use Rattle.plan.specs.Filed.{entry_fault}
use Rattle.plan.proofs.Ranges.{try_below}
use Rattle.plan.proofs.bytes.PlanFile.check_entries.Goals as goal

pub returns : goal.returns
returns c = try_below _ _ _ _ _ _ (entry_fault c.args.self.now.bytes.now) c.try_for_each.ensures.ran refl c.zones.ensures (λ x b q k. search rules)

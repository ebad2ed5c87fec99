use Rattle.std.proofs.Common.{ℕ, ◌-◌, ◌<◌, ◌≤◌}
use Rattle.model.specs.Plans.{Leaves}
use Rattle.plan.specs.Shut.{shut, without}
use Rattle.plan.proofs.closure.ClosurePlan.leaving.Given as goal

abbrev pub invariant-loop-found : goal.invariant-loop-found
invariant-loop-found g l = (l.from ≤ l.next) × ((k : ℕ) → l.from ≤ k → k < l.next → Leaves (without (g.P.Plan.meaning l.self.below) (shut l.self.sheet.bytes)).passage l.zone k → ⊥)

abbrev pub decreases-loop-found : goal.decreases-loop-found
decreases-loop-found g l = 256 - l.next

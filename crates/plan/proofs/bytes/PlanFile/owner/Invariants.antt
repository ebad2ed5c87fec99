use Rattle.std.proofs.Common.{◌-◌, ◌<◌, ◌≤◌}
use Rattle.plan.specs.Filed.{zone_count_of, owner_below}
use Rattle.plan.proofs.bytes.PlanFile.owner.Given as goal

abbrev pub invariant-loop-owner : goal.invariant-loop-owner
invariant-loop-owner l =
    (l.owner ≤ owner_below l.self.bytes.now l.body (zone_count_of l.self.bytes.now))
    × (owner_below l.self.bytes.now l.body (zone_count_of l.self.bytes.now) < l.end)
    × (l.end ≤ zone_count_of l.self.bytes.now)

abbrev pub decreases-loop-owner : goal.decreases-loop-owner
decreases-loop-owner l = l.end - l.owner

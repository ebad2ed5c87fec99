use Rattle.std.proofs.Common.{◌+◌, ◌-◌, ◌/◌, ◌<◌, ◌≤◌, arith}
use Rattle.plan.specs.Filed.{zone_count_of, entry_of}
use Rattle.plan.specs.FiledFacts.{kept}
use Rattle.plan.proofs.Owners.{owner_low, owner_from, owner_under}
use Rattle.plan.proofs.bytes.PlanFile.owner.Goals as goal

pub loop-owner-init : goal.loop-owner-init
loop-owner-init c =
    let o = owner_low c.args.self.now.bytes.now (kept c.args.self.now.bytes.now c.requires) c.args.body in
    (omega arith, omega (arith, o, c.zones-end.ensures), omega (arith, c.zones-end.ensures))

pub overflow_add-owner : goal.overflow_add-owner
overflow_add-owner c = omega (arith, c.loop-owner.invariant.0, c.loop-owner.invariant.1, c.loop-owner.invariant.2, c.args.self.now.framed.few_zones)

pub loop-owner-preserved-then-entry-body : goal.loop-owner-preserved-then-entry-body
loop-owner-preserved-then-entry-body c =
    let m : (c.loop-owner.owner + c.loop-owner.end) / 2 < zone_count_of c.args.self.now.bytes.now = omega (arith, c.loop-owner-test.true, c.loop-owner.invariant.2) in
    let s : entry_of c.args.self.now.bytes.now ((c.loop-owner.owner + c.loop-owner.end) / 2) ≤ c.args.body = omega (arith, c.entry.ensures, c.if-entry-body.true) in
    (owner_from c.args.self.now.bytes.now (kept c.args.self.now.bytes.now c.requires) c.args.body _ m s, c.loop-owner.invariant.1, c.loop-owner.invariant.2)

pub loop-owner-preserved : goal.loop-owner-preserved
loop-owner-preserved c =
    let m : (c.loop-owner.owner + c.loop-owner.end) / 2 < zone_count_of c.args.self.now.bytes.now = omega (arith, c.loop-owner-test.true, c.loop-owner.invariant.2) in
    let s : c.args.body < entry_of c.args.self.now.bytes.now ((c.loop-owner.owner + c.loop-owner.end) / 2) = omega (arith, c.entry.ensures, c.if-entry-body.false) in
    (c.loop-owner.invariant.0, owner_under c.args.self.now.bytes.now (kept c.args.self.now.bytes.now c.requires) c.args.body _ m s, omega (arith, m))

pub returns : goal.returns
returns c = omega (arith, c.loop-owner.invariant.0, c.loop-owner.invariant.1, c.loop-owner-test.false)

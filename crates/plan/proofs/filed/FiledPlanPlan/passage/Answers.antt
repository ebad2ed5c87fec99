use Rattle.std.proofs.Common.{◌≡◌, take, Some, rules, ap, arith}
use Rattle.plan.specs.Filed.{count_of, body_below_lem}
use Rattle.plan.specs.FiledFacts.{body_of}
use Rattle.plan.proofs.filed.FiledPlanPlan.passage.Goals as goal

pub body-found-requires : goal.body-found-requires
body-found-requires c =
    let b = take c.args.self.now.size c.args.self.now.bytes in
    let e : body_below_lem b c.args.number (count_of b) ≡ Some c.in_ok-body.body = search rules in
    let y = body_of b c.args.number (count_of b) c.in_ok-body.body (omega arith) e in
    omega (arith, y.below, ap count_of c.file-file.ensures)

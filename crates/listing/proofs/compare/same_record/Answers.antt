use Rattle.listing.proofs.Sides.{compared_fronts}
use Rattle.listing.proofs.compare.same_record.Goals as goal

pub returns-then-n-m : goal.returns-then-n-m
returns-then-n-m c = compared_fronts c.args.left.now c.args.right.now c.args.n c.args.m c.min-front.result c.eq.result c.if-n-m.true c.min-front.ensures c.told-left c.told-right c.eq.ensures

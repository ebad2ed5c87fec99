use Rattle.std.proofs.Common.{arith}
use Rattle.listing.proofs.Sides.{stepped, led_on}
use Rattle.listing.proofs.compare.following.Goals as goal

pub returns : goal.returns
returns g c =
    let k = c.next.ensures in
    record {
      step = stepped _ _ _ _ _ _ _ c.next.result _ c.unwrap_or.ensures (omega arith) k.relation;
      same = k.same;
      forward = led_on (g.P.Plan.meaning c.args.enquiry.now.search.plan) (g.R.Rule.meaning c.args.enquiry.now.search.rule) c.args.enquiry.now.search.automaton c.args.enquiry.now.cursor c.next.new.self.cursor c.next.result _ c.unwrap_or.ensures k.forward;
    }

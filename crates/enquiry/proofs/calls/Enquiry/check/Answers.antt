use Rattle.enquiry.proofs.Judged.{formed_two, check_refused, check_faulty, check_judged}
use Rattle.enquiry.proofs.calls.Enquiry.check.Goals as goal

pub returns-in_default : goal.returns-in_default
returns-in_default g c = rw c.in_default.is (check_refused (g.P.Plan.meaning c.args.self.now.search.plan) (g.R.Rule.meaning c.args.self.now.search.rule) c.args.self.now.search.automaton _)

pub returns-in-Some-malformed : goal.returns-in-Some-malformed
returns-in-Some-malformed g c = rw c.in-Some.is (check_faulty _ _ (g.met.R.Rule.keeps c.args.self.now.search.rule) _ c.in-Some.cursor _ _ c.in-Some-malformed.ensures)

pub walk-requires : goal.walk-requires
walk-requires g c = let f = formed_two _ c.in_default-malformed.ensures in record { long = f.0; few = f.1 }

pub returns : goal.returns
returns g c = rw c.in-Some.is (check_judged _ _ (g.met.R.Rule.keeps c.args.self.now.search.rule) _ c.in-Some.cursor _ c.walk.result _ c.is_some.ensures c.in_default-malformed.ensures c.walk.ensures)

use Rattle.enquiry.proofs.Cursors.{again_refused, again_accepted}
use Rattle.enquiry.proofs.calls.Enquiry.again.Goals as goal

pub returns-in_default-clause-relation : goal.returns-in_default-clause-relation
returns-in_default-clause-relation g c = rw c.in_default.is (again_refused (g.P.Plan.meaning c.args.self.now.search.plan) (g.R.Rule.meaning c.args.self.now.search.rule) (g.met.R.Rule.keeps c.args.self.now.search.rule) c.args.self.now.search.automaton)

pub returns-clause-relation : goal.returns-clause-relation
returns-clause-relation g c = rw (c.in-Some.is, c.with_progress.ensures) (again_accepted _ _ (g.met.R.Rule.keeps c.args.self.now.search.rule) _ c.in-Some.cursor c.start.result c.start.ensures)

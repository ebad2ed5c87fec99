use Rattle.enquiry.proofs.Deepen.{Under}
use Rattle.enquiry.proofs.calls.Enquiry.least_length.Given as goal

abbrev pub invariant-loop-most : goal.invariant-loop-most
invariant-loop-most g l = Under (g.P.Plan.meaning l.initial.self.search.plan) (g.R.Rule.meaning l.initial.self.search.rule) l.initial.self.search.automaton l.start l.target l.most

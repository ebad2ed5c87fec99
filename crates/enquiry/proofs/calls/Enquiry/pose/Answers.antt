use Rattle.std.proofs.Common.{◌<◌, refl, ◌∙◌, arith}
use Rattle.enquiry.proofs.Cursors.{pose_start, pose_target, pose_accepted, cap_all, cap_short}
use Rattle.enquiry.proofs.calls.Enquiry.pose.Goals as goal
use Rattle.enquiry.proofs.calls.Enquiry.pose.Goals.{in-All, in-Shortest}

pub returns-then-start-zones-clause-relation : goal.returns-then-start-zones-clause-relation
returns-then-start-zones-clause-relation g c = pose_start _ _ (g.met.R.Rule.keeps c.args.self.now.search.rule) _ _ _ _ _ (omega arith)

pub returns-then-target-zones-clause-relation : goal.returns-then-target-zones-clause-relation
returns-then-target-zones-clause-relation g c = pose_target _ _ (g.met.R.Rule.keeps c.args.self.now.search.rule) _ _ _ _ _ (omega arith) (omega arith)

pub returns-clause-relation : goal.returns-clause-relation
returns-clause-relation g c =
    let pl = g.P.Plan.meaning c.args.self.now.search.plan in
    let ru = g.R.Rule.meaning c.args.self.now.search.rule in
    let low : c.args.start < pl.zones = omega arith in
    pose_accepted _ _ (g.met.R.Rule.keeps c.args.self.now.search.rule) _ _ c.args.start _ low (omega arith) refl
    (elim c.match-choice.branch [
      | in-All w ↦ cap_all pl ru c.args.self.now.search.automaton _ _ _ _ w.in-All.is (w.most-is ∙ w.length_limit-most.ensures)
      | in-Shortest w ↦ cap_short pl ru c.args.self.now.search.automaton _ _ _ _ _ w.in-Shortest.is w.most-is low w.least_length-most.ensures.least
    ])

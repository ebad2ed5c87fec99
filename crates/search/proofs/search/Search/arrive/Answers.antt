use Rattle.std.proofs.Common.{sym, ap, ◌∙◌, subst}
use Rattle.route.specs.Reading.{track_of}
use Rattle.search.specs.Hunts.{space_of}
use Rattle.search.specs.Trails.{trail}
use Rattle.search.proofs.Trails.{fresh}
use Rattle.search.proofs.Deliver.{Passed, first_delivered, passed_front, delivered}
use Rattle.search.proofs.search.Search.arrive.Goals as goal

pub returns-then-is_answer : goal.returns-then-is_answer
returns-then-is_answer g c st =
    let T = space_of (g.P.Plan.meaning c.args.self.now.plan) (g.R.Rule.meaning c.args.self.now.rule) c.args.self.now.automaton c.args.cursor.now.target c.args.cursor.now.most in
    let same = fresh c.new.result c.in-AtFront.start c.new.ensures.0 c.new.ensures.1 ∙ sym (ap trail c.in-AtFront.is) in
    rw c.if-is_answer.true (first_delivered T c.args.cursor.now.progress c.in-AtFront.start (track_of c.new.result) c.in-AtFront.is same (sym c.is_answer.ensures ∙ c.if-is_answer.true))

pub returns-else-is_answer : goal.returns-else-is_answer
returns-else-is_answer g c st =
    let T = space_of (g.P.Plan.meaning c.args.self.now.plan) (g.R.Rule.meaning c.args.self.now.rule) c.args.self.now.automaton c.args.cursor.now.target c.args.cursor.now.most in
    let p = c.args.cursor.now.progress in
    let s = track_of c.new.result in
    let same = fresh c.new.result c.in-AtFront.start c.new.ensures.0 c.new.ensures.1 ∙ sym (ap trail c.in-AtFront.is) in
    let passed = passed_front T p c.in-AtFront.start s c.in-AtFront.is same (sym c.is_answer.ensures ∙ c.if-is_answer.false) in
    delivered T p s (track_of c.follow.new.route) passed same c.follow.result c.follow.ensures st

pub returns-in-Behind : goal.returns-in-Behind
returns-in-Behind g c st =
    let T = space_of (g.P.Plan.meaning c.args.self.now.plan) (g.R.Rule.meaning c.args.self.now.rule) c.args.self.now.automaton c.args.cursor.now.target c.args.cursor.now.most in
    let p = c.args.cursor.now.progress in
    let passed : Passed T p = subst (Passed T) (sym c.in-Behind.is) tt in
    delivered T p (track_of c.in-Behind.last) (track_of c.follow-in-Behind.new.route) passed (sym (ap trail c.in-Behind.is)) c.follow-in-Behind.result c.follow-in-Behind.ensures st

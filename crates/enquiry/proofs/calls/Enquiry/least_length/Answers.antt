use Rattle.std.proofs.Common.{◌≡◌, arith}
use Rattle.search.specs.Trails.{trail}
use Rattle.enquiry.proofs.Deepen.{found, none, all_tried}
use Rattle.enquiry.proofs.calls.Enquiry.least_length.Goals as goal

pub returns-then-advance-clause-least : goal.returns-then-advance-clause-least
returns-then-advance-clause-least g c =
    found (g.P.Plan.meaning c.args.self.now.search.plan) (g.R.Rule.meaning c.args.self.now.search.rule) (g.met.R.Rule.keeps c.args.self.now.search.rule) c.args.self.now.search.automaton c.args.start c.args.target c.loop-most.most c.advance.result (trail c.advance.new.cursor.progress) c.if-advance.true c.advance.ensures.told c.loop-most.invariant

pub loop-most-preserved : goal.loop-most-preserved
loop-most-preserved g c =
    none (g.P.Plan.meaning c.args.self.now.search.plan) (g.R.Rule.meaning c.args.self.now.search.rule) (g.met.R.Rule.keeps c.args.self.now.search.rule) c.args.self.now.search.automaton c.args.start c.args.target c.loop-most.most c.advance.result (trail c.advance.new.cursor.progress) c.if-advance.false c.advance.ensures.told c.loop-most.invariant

pub returns-clause-least : goal.returns-clause-least
returns-clause-least g c =
    let e : c.loop-most.most ≡ c.length_limit-limit.result = omega arith in
    all_tried (g.P.Plan.meaning c.args.self.now.search.plan) (g.R.Rule.meaning c.args.self.now.search.rule) (g.met.R.Rule.keeps c.args.self.now.search.rule) c.args.self.now.search.automaton c.args.start c.args.target c.length_limit-limit.result c.length_limit-limit.ensures
    (λ t rec low b k. omega (arith, c.loop-most.invariant t rec low b k, e))

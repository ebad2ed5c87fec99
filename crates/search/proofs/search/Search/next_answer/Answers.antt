use Rattle.route.specs.Reading.{track_of}
use Rattle.search.specs.Hunts.{space_of}
use Rattle.search.specs.Trails.{trail, begun}
use Rattle.search.proofs.Deliver.{none_left}
use Rattle.search.proofs.search.Search.next_answer.Goals as goal

pub returns-else-found : goal.returns-else-found
returns-else-found g c st =
    let T = space_of (g.P.Plan.meaning c.args.self.now.plan) (g.R.Rule.meaning c.args.self.now.rule) c.args.self.now.automaton c.args.cursor.now.target c.args.cursor.now.most in
    let p = c.args.cursor.now.progress in
    none_left T (begun p) c.arrive-found.result (trail p) (track_of c.arrive-found.new.route) (trail p) c.if-found.false (c.arrive-found.ensures st)

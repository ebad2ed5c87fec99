use Rattle.route.specs.Reading.{track_of}
use Rattle.search.specs.Hunts.{space_of}
use Rattle.search.specs.Trails.{trail, begun}
use Rattle.search.proofs.Deliver.{none_comes}
use Rattle.search.proofs.search.Search.advance.Goals as goal

pub returns-else-found-clause-told : goal.returns-else-found-clause-told
returns-else-found-clause-told g c st =
    let T = space_of (g.P.Plan.meaning c.args.self.now.plan) (g.R.Rule.meaning c.args.self.now.rule) c.args.self.now.automaton c.args.cursor.now.target c.args.cursor.now.most in
    let p = c.args.cursor.now.progress in
    none_comes T (begun p) c.arrive-found.result (trail p) (track_of c.arrive-found.new.route) (trail p) c.if-found.false (c.arrive-found.ensures st)

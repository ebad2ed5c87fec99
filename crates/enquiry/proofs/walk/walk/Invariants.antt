use Rattle.route.specs.Reading.{track_of}
use Rattle.search.specs.Trails.{trail}
use Rattle.enquiry.proofs.Ways.{OnWay}
use Rattle.enquiry.proofs.walk.walk.Given as goal

abbrev pub invariant-loop-passage : goal.invariant-loop-passage
invariant-loop-passage g l = OnWay (g.P.Plan.meaning l.search.plan) (g.R.Rule.meaning l.search.rule) l.search.automaton l.cursor.target l.cursor.most (trail l.cursor.progress).start l.words (track_of l.route) l.passage-index

use Rattle.std.proofs.Common.{◌≡◌}
use Rattle.search.specs.Hunts.{space_of}
use Rattle.route.specs.Reading.{track_of}
use Rattle.search.specs.Listings.{codes_of, Standing}
use Rattle.search.proofs.Follow.{Rest}
use Rattle.search.proofs.search.Search.follow.Given as goal

abbrev pub invariant-loop-passage : goal.invariant-loop-passage
invariant-loop-passage g l =
    (l.route.start ≡ l.initial.route.start)
    × (Standing (space_of (g.P.Plan.meaning l.self.plan) (g.R.Rule.meaning l.self.rule) l.self.automaton l.cursor.target l.cursor.most) (track_of l.initial.route) → Rest (space_of (g.P.Plan.meaning l.self.plan) (g.R.Rule.meaning l.self.rule) l.self.automaton l.cursor.target l.cursor.most) l.initial.route.start (codes_of (track_of l.initial.route)) (track_of l.route).steps l.passage l.mark)

abbrev pub decreases-loop-passage : goal.decreases-loop-passage
decreases-loop-passage g l = l.route.len

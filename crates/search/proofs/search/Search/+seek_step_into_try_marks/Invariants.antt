use Rattle.std.proofs.Common.{◌≡◌, ◌+◌, ◌-◌, ◌*◌, ◌≤◌}
use Rattle.search.specs.Spaces.{Nothing, Between, Under}
use Rattle.search.specs.Hunts.{space_of}
use Rattle.route.specs.Reading.{track_of}
use Rattle.search.proofs.search.Search.+seek_step_into_try_marks.Given as goal

abbrev pub decreases-seek : goal.decreases-seek
decreases-seek g l = 3 * (256 - l.route.now.len) + 2

abbrev pub decreases-step_into : goal.decreases-step_into
decreases-step_into g l = 3 * (256 - l.route.now.len)

abbrev pub decreases-try_marks : goal.decreases-try_marks
decreases-try_marks g l = 3 * (256 - l.route.now.len) + 1

abbrev pub invariant-seek-loop-found : goal.invariant-seek-loop-found
invariant-seek-loop-found g l =
    (l.route.len ≡ l.initial.route.len)
    × (track_of l.route ≡ track_of l.initial.route)
    × (l.passage ≤ l.next)
    × Nothing (space_of (g.P.Plan.meaning l.self.plan) (g.R.Rule.meaning l.self.rule) l.self.automaton l.cursor.target l.cursor.most) (track_of l.initial.route) (Under l.passage l.mark l.next)

abbrev pub decreases-seek-loop-found : goal.decreases-seek-loop-found
decreases-seek-loop-found g l = 256 - l.next

abbrev pub invariant-try_marks-loop-mark : goal.invariant-try_marks-loop-mark
invariant-try_marks-loop-mark g l =
    (l.route.len ≡ l.initial.route.len)
    × (track_of l.route ≡ track_of l.initial.route)
    × (l.from ≤ l.mark)
    × Nothing (space_of (g.P.Plan.meaning l.self.plan) (g.R.Rule.meaning l.self.rule) l.self.automaton l.cursor.target l.cursor.most) (track_of l.initial.route) (Between l.passage l.from l.mark)

-- proposed from the loop's first test
abbrev pub decreases-try_marks-loop-mark : goal.decreases-try_marks-loop-mark
decreases-try_marks-loop-mark g l = 9 - l.mark

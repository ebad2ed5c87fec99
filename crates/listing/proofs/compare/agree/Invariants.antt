use Rattle.std.proofs.Common.{◌≡◌, ◌+◌, ◌-◌, ◌^◌, length}
use Rattle.listing.specs.Pairs.{place, UnderWay}
use Rattle.listing.proofs.Sides.{Beside}
use Rattle.listing.proofs.compare.agree.Given as goal

abbrev pub invariant-loop-n : goal.invariant-loop-n
invariant-loop-n g l =
    (l.left.search ≡ l.initial.left.search)
    × (l.right.search ≡ l.initial.right.search)
    × UnderWay (g.P.Plan.meaning l.initial.left.search.plan) (g.R.Rule.meaning l.initial.left.search.rule) l.initial.left.search.automaton l.left.cursor
    × Beside (g.P.Plan.meaning l.initial.left.search.plan) (g.R.Rule.meaning l.initial.left.search.rule) l.initial.left.search.automaton l.initial.left.cursor (g.Q.Plan.meaning l.initial.right.search.plan) (g.S.Rule.meaning l.initial.right.search.rule) l.initial.right.search.automaton l.initial.right.cursor l.left.cursor l.right.cursor
    × (length l.one ≡ 770)
    × (length l.other ≡ 770)

abbrev pub decreases-loop-n : goal.decreases-loop-n
decreases-loop-n g l = 2305 ^ 256 + 1 - place l.left.cursor

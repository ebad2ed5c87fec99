use Rattle.std.proofs.Common.{◌≡◌, ◌++◌, map, vec_items}
use Rattle.std.specs.Vec.Iter.{into_iter_items}
use Rattle.model.specs.Patterns.{Tree}
use Rattle.automaton.specs.Tables.{Recognises}
use Rattle.enquiry.specs.Promises.{asked}
use Rattle.listing.specs.Events.{call_of, reply_of}
use Rattle.listing.proofs.Turns.{Running}
use Rattle.listing.proofs.replays.run_calls.Given as goal

abbrev pub invariant-loop-call : goal.invariant-loop-call
invariant-loop-call g l =
    (l.enquiry.search ≡ l.initial.enquiry.search)
    × ((t : Tree) → Recognises l.initial.enquiry.search.automaton t → Running (asked (g.P.Plan.meaning l.initial.enquiry.search.plan) (g.R.Rule.meaning l.initial.enquiry.search.rule) t) l.initial.enquiry.search.automaton (map call_of l.yielded) (map reply_of (vec_items l.replies)) l.enquiry.cursor)
    × (l.yielded ++ into_iter_items l.call-iterator ≡ into_iter_items l.initial.call-iterator)

use Rattle.std.proofs.Common.{◌<◌, sym, refl, ap, ◌∙◌, inl, inr, arith}
use Rattle.search.specs.Hunts.{space_of}
use Rattle.route.specs.Reading.{track_of, taken_at}
use Rattle.route.specs.Tracks.{popped}
use Rattle.route.proofs.Views.{length_taken, len_same, len_push}
use Rattle.search.proofs.Searches.{kept, nothing, sought_nothing, only_none, only_here, only_below, only_dead, sought_at, marks_found, marks_on, final_at}
use Rattle.search.proofs.Reaches.{reach_open, marks_end, seek_end, seek_found, seek_on, leaves_at}
use Rattle.search.proofs.search.Search.+seek_step_into_try_marks.Goals as goal
use Rattle.search.proofs.search.Search.+seek_step_into_try_marks.Goals.{seek-then-found-passage, seek-else-found-passage, step_into-then-is_answer-via-then-is_answer, step_into-then-is_answer-via-else-is_answer+then-seek}

pub seek-returns-then-try_marks : goal.seek-returns-then-try_marks
seek-returns-then-try_marks g t c =
    let i = c.loop-found.invariant in
    let l = c.in-Some.ensures in
    seek_found _ _ _ _ _ _ _ _ _ _ _ _ (omega (arith, i.2, l.0)) i.3 (λ n a b h. l.2 n a b (leaves_at (g.P.Plan.meaning c.args.self.now.plan) _ _ n c.here-zone.ensures.track h)) (elim c.if-found-passage.branch [ seek-then-found-passage w ↦ inl (w.if-found-passage.true, w.from-is) | seek-else-found-passage w ↦ inr (w.if-found-passage.false, w.from-is) ]) (sought_at _ _ _ _ _ _ i.1 c.if-try_marks.ensures)

pub seek-loop-found-preserved : goal.seek-loop-found-preserved
seek-loop-found-preserved g t c =
    let i = c.loop-found.invariant in
    let l = c.in-Some.ensures in
    let k = kept _ _ _ _ c.if-try_marks.ensures ∙ i.1 in
    (len_same c.try_marks.new.route c.args.route.now k, k, omega (arith, i.2, l.0), seek_on _ _ _ _ _ _ _ _ _ _ _ (omega (arith, i.2, l.0)) i.3 (λ n a b h. l.2 n a b (leaves_at (g.P.Plan.meaning c.args.self.now.plan) _ _ n c.here-zone.ensures.track h)) (elim c.if-found-passage.branch [ seek-then-found-passage w ↦ inl (w.if-found-passage.true, w.from-is) | seek-else-found-passage w ↦ inr (w.if-found-passage.false, w.from-is) ]) (nothing _ _ _ _ (sought_at _ _ _ _ _ _ i.1 c.if-try_marks.ensures)))

pub seek-returns : goal.seek-returns
seek-returns g t c =
    let i = c.loop-found.invariant in
    sought_nothing _ _ _ _ i.1 (seek_end _ _ _ _ _ _ _ _ _ i.3 (λ n a h. c.in_default.ensures n a (leaves_at (g.P.Plan.meaning c.args.self.now.plan) _ _ n c.here-zone.ensures.track h)))

pub step_into-returns-in_default : goal.step_into-returns-in_default
step_into-returns-in_default g t c =
    sought_nothing _ _ _ _ refl (only_none _ _ _ _ (sym c.reach.ensures ∙ c.in_default.is))

pub step_into-seek-requires : goal.step_into-seek-requires
step_into-seek-requires g t c κs within =
    let o = reach_open _ _ _ _ _ _ _ _ (sym c.reach.ensures ∙ c.in-Some.is) in
    let room : c.args.route.now.len < 256 = omega (arith, o.room, length_taken (taken_at c.args.route.now) c.args.route.now.len) in
    (omega (arith, room, c.decreases, len_push c.push.new.self c.args.route.now _ (c.push.ensures.track room)), within)

pub step_into-returns-then-is_answer : goal.step_into-returns-then-is_answer
step_into-returns-then-is_answer g t c =
    let T = space_of (g.P.Plan.meaning c.args.self.now.plan) (g.R.Rule.meaning c.args.self.now.rule) c.args.self.now.automaton c.args.cursor.now.target c.args.cursor.now.most in
    let o = reach_open _ _ _ _ _ _ _ _ (sym c.reach.ensures ∙ c.in-Some.is) in
    let room : c.args.route.now.len < 256 = omega (arith, o.room, length_taken (taken_at c.args.route.now) c.args.route.now.len) in
    let e = c.push.ensures.track room in
    let r = sym c.reach.ensures ∙ c.in-Some.is in
    elim c.then-is_answer.branch [
      | step_into-then-is_answer-via-then-is_answer w ↦ only_here T _ _ _ _ _ r (final_at T _ _ _ _ e c.is_answer.ensures w.if-is_answer.true) (ap track_of w.route-is ∙ e)
      | step_into-then-is_answer-via-else-is_answer+then-seek w ↦ only_below T _ _ _ _ _ r (final_at T _ _ _ _ e c.is_answer.ensures w.if-is_answer.false) (sought_at T _ _ _ _ _ e (rw w.route-is w.if-seek.ensures))
    ]

pub step_into-returns : goal.step_into-returns
step_into-returns g t c =
    let T = space_of (g.P.Plan.meaning c.args.self.now.plan) (g.R.Rule.meaning c.args.self.now.rule) c.args.self.now.automaton c.args.cursor.now.target c.args.cursor.now.most in
    let o = reach_open _ _ _ _ _ _ _ _ (sym c.reach.ensures ∙ c.in-Some.is) in
    let room : c.args.route.now.len < 256 = omega (arith, o.room, length_taken (taken_at c.args.route.now) c.args.route.now.len) in
    let e = c.push.ensures.track room in
    let r = sym c.reach.ensures ∙ c.in-Some.is in
    let k = kept _ _ _ _ c.if-seek.ensures ∙ e in
    sought_nothing _ _ _ _ (c.pop.ensures.track ∙ ap popped k) (only_dead T _ _ _ _ r (final_at T _ _ _ _ e c.is_answer.ensures c.if-is_answer.false) (nothing _ _ _ _ (sought_at _ _ _ _ _ _ e c.if-seek.ensures)))

pub try_marks-returns-then-step_into : goal.try_marks-returns-then-step_into
try_marks-returns-then-step_into g t c =
    let i = c.loop-mark.invariant in
    marks_found _ _ _ _ _ _ i.2 i.3 (sought_at _ _ _ _ _ _ i.1 c.if-step_into.ensures)

pub try_marks-loop-mark-preserved : goal.try_marks-loop-mark-preserved
try_marks-loop-mark-preserved g t c =
    let i = c.loop-mark.invariant in
    let k = kept _ _ _ _ c.if-step_into.ensures ∙ i.1 in
    (len_same c.step_into.new.route c.args.route.now k, k, omega (arith, i.2), marks_on _ _ _ _ _ i.3 (nothing _ _ _ _ (sought_at _ _ _ _ _ _ i.1 c.if-step_into.ensures)))

pub try_marks-returns : goal.try_marks-returns
try_marks-returns g t c =
    let i = c.loop-mark.invariant in
    sought_nothing _ _ _ _ i.1 (marks_end _ _ _ _ _ _ _ _ _ c.loop-mark-test.false i.3)

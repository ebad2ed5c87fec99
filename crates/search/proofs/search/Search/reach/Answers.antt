use Rattle.std.proofs.Common.{ℕ, true, false, sym, ap, ◌∙◌}
use Rattle.route.specs.Tracks.{last_mask}
use Rattle.search.specs.Hunts.{space_of}
use Rattle.route.specs.Reading.{track_of, taken_at}
use Rattle.search.proofs.Reaches.{reach_read, reach_none}
use Rattle.route.proofs.Views.{length_taken, views_agree}
use Rattle.model.specs.Routes.{Route}
use Rattle.search.proofs.search.Search.reach.Goals as goal

pub returns-in_err-origin : goal.returns-in_err-origin
unfolding space_of
returns-in_err-origin g c =
    let e = c.args.self.now in
    let r = c.args.route.now in
    c.from_residual.ensures ∙ sym (reach_none (g.R.Rule.meaning e.rule) e.automaton c.args.cursor.now.most (track_of r) (record { passage = c.args.passage; mark = c.args.mark }) _ (sym c.passage.ensures ∙ c.in_err-origin.was))

pub returns-then-origin-here : goal.returns-then-origin-here
unfolding space_of
returns-then-origin-here g c =
    let e = c.args.self.now in
    let r = c.args.route.now in
    reach_read (g.R.Rule.meaning e.rule) e.automaton c.args.cursor.now.most (track_of r) (record { passage = c.args.passage; mark = c.args.mark }) _ c.in_ok-origin.origin c.in_ok-origin.zone c.in_ok-origin.kind c.here.result c.mask.result c.step-mask.result r.len c.may_add.result true
    (sym c.passage.ensures ∙ c.in_ok-origin.was) c.here.ensures.track (c.mask.ensures ∙ ap (λ (k : ℕ). last_mask k (track_of r).steps) c.start.ensures.value) c.step-mask.ensures.value (sym (length_taken (taken_at r) r.len)) (c.may_add.ensures ∙ ap (λ (x : Route). (g.R.Rule.meaning e.rule).permits x c.args.passage c.in_ok-origin.zone) (views_agree r)) c.if-origin-here.true

pub returns-else-origin-here : goal.returns-else-origin-here
unfolding space_of
returns-else-origin-here g c =
    let e = c.args.self.now in
    let r = c.args.route.now in
    reach_read (g.R.Rule.meaning e.rule) e.automaton c.args.cursor.now.most (track_of r) (record { passage = c.args.passage; mark = c.args.mark }) _ c.in_ok-origin.origin c.in_ok-origin.zone c.in_ok-origin.kind c.here.result c.mask.result c.step-mask.result r.len c.may_add.result false
    (sym c.passage.ensures ∙ c.in_ok-origin.was) c.here.ensures.track (c.mask.ensures ∙ ap (λ (k : ℕ). last_mask k (track_of r).steps) c.start.ensures.value) c.step-mask.ensures.value (sym (length_taken (taken_at r) r.len)) (c.may_add.ensures ∙ ap (λ (x : Route). (g.R.Rule.meaning e.rule).permits x c.args.passage c.in_ok-origin.zone) (views_agree r)) c.if-origin-here.false

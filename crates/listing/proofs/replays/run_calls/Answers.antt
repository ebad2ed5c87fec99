use Rattle.std.proofs.Common.{List, [], ◌∷◌, ◌++◌, map, vec_items, sym, refl, ap, ◌∙◌, append_assoc, append-nil}
use Rattle.listing.specs.declared.call.Call.{Call}
use Rattle.std.specs.Vec.Iter.{into_iter_items}
use Rattle.listing.specs.Events.{reply_of}
use Rattle.search.specs.declared.search.Search.{Search}
use Rattle.listing.proofs.Turns.{starts_new, more_calls, all_replayed, none_of}
use Rattle.listing.proofs.replays.run_calls.Goals as goal

pub loop-call-init : goal.loop-call-init
loop-call-init g c = (refl, λ t rec. starts_new _ _ _ _ _ refl (ap (map reply_of) c.new-replies.ensures.items) c.new-enquiry.ensures.unposed, refl)

pub loop-call-preserved : goal.loop-call-preserved
loop-call-preserved g c =
    let i = c.loop-call.invariant in
    let k = c.perform.ensures in (
      k.same ∙ i.0,
      more_calls _ _ c.loop-call.yielded (vec_items c.loop-call.replies) (vec_items c.push.new.self) c.in-Some.call c.perform.result (ap (λ (s : Search _ _). g.P.Plan.meaning s.plan) i.0) (ap (λ (s : Search _ _). g.R.Rule.meaning s.rule) i.0) (ap (λ (s : Search _ _). s.automaton) i.0) k.told c.in_ok-push.ensures.items i.1,
      append_assoc c.loop-call.yielded (c.in-Some.call ∷ []) _ ∙ ap (λ (x : List Call). c.loop-call.yielded ++ x) (sym c.in-Some.ensures.steps.0) ∙ i.2,
    )

pub returns : goal.returns
returns g c =
    let i = c.loop-call.invariant in
    let k = c.new-enquiry.ensures.holds in
    all_replayed (g.met.R.Rule.keeps c.new-enquiry.result.search.rule) _ c.loop-call.yielded (vec_items c.args.calls) (vec_items c.loop-call.replies) (ap g.P.Plan.meaning k.0) (ap g.R.Rule.meaning k.1.0) k.1.1 (sym (append-nil c.loop-call.yielded) ∙ ap (λ (x : List Call). c.loop-call.yielded ++ x) (none_of (into_iter_items c.loop-call.call-iterator) (sym c.loop-call.call-iterator.rest.ok.0 ∙ c.in-None.ensures.steps.0)) ∙ i.2 ∙ c.into_iter-call-iterator.ensures.into_iter_gives.0) i.1

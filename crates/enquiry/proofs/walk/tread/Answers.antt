use Rattle.std.proofs.Common.{◌<◌, sym, ◌∙◌, ⊎_elim, arith}
use Rattle.route.specs.Reading.{track_of, taken_at}
use Rattle.route.proofs.Views.{length_taken}
use Rattle.bridge.proofs.Walk.{reach_bounds}
use Rattle.search.specs.Hunts.{space_of}
use Rattle.enquiry.proofs.Ways.{trodden}
use Rattle.enquiry.proofs.walk.tread.Goals as goal

pub returns-then-passage-gt255 : goal.returns-then-passage-gt255
returns-then-passage-gt255 g c mask e =
    let b = reach_bounds (g.P.Plan.meaning c.args.search.now.plan) (g.R.Rule.meaning c.args.search.now.rule) c.args.search.now.automaton c.args.cursor.now.target c.args.cursor.now.most _ _ _ e in
    ⊎_elim (λ h. omega arith) (λ h. omega arith) c.then-passage-gt255.either

pub returns : goal.returns
returns g c =
    let b = reach_bounds (g.P.Plan.meaning c.args.search.now.plan) (g.R.Rule.meaning c.args.search.now.rule) c.args.search.now.automaton c.args.cursor.now.target c.args.cursor.now.most _ _ _ (sym c.reach.ensures ∙ c.in-Some.is) in
    let room : c.args.route.now.len < 256 = omega (arith, b.2, length_taken (taken_at c.args.route.now) c.args.route.now.len, c.args.cursor.now.short) in
    trodden (space_of (g.P.Plan.meaning c.args.search.now.plan) (g.R.Rule.meaning c.args.search.now.rule) c.args.search.now.automaton c.args.cursor.now.target c.args.cursor.now.most) (track_of c.args.route.now) _ _ _ _ _ _ c.if-reached-zone.false (sym c.reach.ensures ∙ c.in-Some.is) (c.push.ensures.track room)

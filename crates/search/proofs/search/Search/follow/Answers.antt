use Rattle.std.proofs.Common.{◌≡◌, ◌-◌, ◌%◌, ◌<◌, get_or, refl, ap, ◌∙◌, arith}
use Rattle.search.specs.Hunts.{space_of}
use Rattle.route.specs.Reading.{track_of}
use Rattle.route.specs.Tracks.{Track}
use Rattle.search.specs.Listings.{codes_of}
use Rattle.search.proofs.Searches.{kept}
use Rattle.route.proofs.Views.{len_same, len_pop}
use Rattle.search.proofs.Reaches.{reach_open}
use Rattle.search.proofs.Follow.{rest_mark, rest_start, followed_true, followed_false}
use Rattle.search.proofs.Turns.{turn_found, turn_none, turn_stands, turn_pop}
use Rattle.search.proofs.search.Search.follow.Goals as goal

pub loop-passage-init : goal.loop-passage-init
loop-passage-init g c = (refl, λ st. rest_start _ _ _ st)

pub returns-then-seek : goal.returns-then-seek
returns-then-seek g c st =
    let T = space_of (g.P.Plan.meaning c.args.self.now.plan) (g.R.Rule.meaning c.args.self.now.rule) c.args.self.now.automaton c.args.cursor.now.target c.args.cursor.now.most in
    followed_true T _ (track_of c.args.route.now) _ refl (turn_found T c.args.route.now.start (codes_of (track_of c.args.route.now)) c.loop-passage.route c.seek.new.route c.loop-passage.passage c.loop-passage.mark c.loop-passage.invariant.0 (c.loop-passage.invariant.1 st) c.if-seek.ensures)

pub returns-then-route-eq0 : goal.returns-then-route-eq0
returns-then-route-eq0 g c st =
    let T = space_of (g.P.Plan.meaning c.args.self.now.plan) (g.R.Rule.meaning c.args.self.now.rule) c.args.self.now.automaton c.args.cursor.now.target c.args.cursor.now.most in
    followed_false T _ (track_of c.args.route.now) _ refl (turn_none T c.args.route.now.start (codes_of (track_of c.args.route.now)) c.loop-passage.route c.seek.new.route c.loop-passage.passage c.loop-passage.mark c.loop-passage.invariant.0 (c.loop-passage.invariant.1 st) c.if-seek.ensures c.if-route-eq0.true)

pub loop-passage-smaller : goal.loop-passage-smaller
loop-passage-smaller g c =
    let T = space_of (g.P.Plan.meaning c.args.self.now.plan) (g.R.Rule.meaning c.args.self.now.rule) c.args.self.now.automaton c.args.cursor.now.target c.args.cursor.now.most in
    let l : 0 < c.seek.new.route.len = omega arith in
    omega (arith, len_same c.seek.new.route c.loop-passage.route (kept T _ _ _ c.if-seek.ensures), len_pop c.pop.new.self c.seek.new.route c.pop.ensures.track l)

pub loop-passage-preserved : goal.loop-passage-preserved
loop-passage-preserved g c =
    let T = space_of (g.P.Plan.meaning c.args.self.now.plan) (g.R.Rule.meaning c.args.self.now.rule) c.args.self.now.automaton c.args.cursor.now.target c.args.cursor.now.most in
    let l : 0 < c.seek.new.route.len = omega arith in (
      ap (λ (x : Track). x.start) c.pop.ensures.track ∙ ap (λ (x : Track). x.start) (kept T _ _ _ c.if-seek.ensures) ∙ c.loop-passage.invariant.0,
      λ st.
          let s = turn_stands T c.args.route.now.start (codes_of (track_of c.args.route.now)) c.loop-passage.route c.seek.new.route c.loop-passage.passage c.loop-passage.mark c.loop-passage.invariant.0 (c.loop-passage.invariant.1 st) c.if-seek.ensures l in
          let o = reach_open _ _ _ _ _ _ _ _ s.1 in
          let r = c.seek.new.route in
          let e : get_or r.marks (r.len - 1) 0 % 9 ≡ get_or r.marks (r.len - 1) 0 = omega (arith, o.mark) in
          rest_mark _ (get_or r.marks (r.len - 1) 0) e refl
          (turn_pop T c.args.route.now.start (codes_of (track_of c.args.route.now)) c.loop-passage.route c.seek.new.route c.loop-passage.passage c.loop-passage.mark c.loop-passage.invariant.0 (c.loop-passage.invariant.1 st) c.pop.new.self c.if-seek.ensures l c.pop.ensures.track),
    )

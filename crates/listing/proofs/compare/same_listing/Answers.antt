use Rattle.std.proofs.Common.{ap}
use Rattle.std.proofs.lemmas.Result.{err_from_is_err_and}
use Rattle.listing.specs.Queries.{full, first_refused, second_refused}
use Rattle.listing.proofs.Openings.{under_way, compared}
use Rattle.listing.proofs.compare.same_listing.Goals as goal

pub returns-in_err-one : goal.returns-in_err-one
returns-in_err-one g c =
    let p = err_from_is_err_and c.from_residual.result c.from_residual.ensures.1 in
    rw (p.1, p.2) (first_refused c.in_err-one.ensures)

pub returns-in_err-other : goal.returns-in_err-other
returns-in_err-other g c =
    let p = err_from_is_err_and c.from_residual-in_err-other.result c.from_residual-in_err-other.ensures.1 in
    let o = c.in_ok-one.ensures in
    rw (p.1, p.2) (second_refused o.2.tree o.2.sound c.in_err-other.ensures)

pub agree-requires : goal.agree-requires
agree-requires g c =
    let o = c.in_ok-one.ensures in
    under_way (full (g.P.Plan.meaning c.args.left.plan) (g.R.Rule.meaning c.args.left.rule) c.args.left.text.now c.args.left.start c.args.left.target c.args.left.choice) (g.P.Plan.meaning c.in_ok-one.one.search.plan) (g.R.Rule.meaning c.in_ok-one.one.search.rule) c.in_ok-one.one.search.automaton c.in_ok-one.one.cursor (ap g.P.Plan.meaning o.0) (ap g.R.Rule.meaning o.1) o.2

pub returns : goal.returns
returns g c =
    let o = c.in_ok-one.ensures in
    let w = c.in_ok-other.ensures in
    compared (full (g.P.Plan.meaning c.args.left.plan) (g.R.Rule.meaning c.args.left.rule) c.args.left.text.now c.args.left.start c.args.left.target c.args.left.choice) (full (g.Q.Plan.meaning c.args.right.plan) (g.S.Rule.meaning c.args.right.rule) c.args.right.text.now c.args.right.start c.args.right.target c.args.right.choice) (g.P.Plan.meaning c.in_ok-one.one.search.plan) (g.R.Rule.meaning c.in_ok-one.one.search.rule) c.in_ok-one.one.search.automaton c.in_ok-one.one.cursor (g.Q.Plan.meaning c.in_ok-other.other.search.plan) (g.S.Rule.meaning c.in_ok-other.other.search.rule) c.in_ok-other.other.search.automaton c.in_ok-other.other.cursor c.agree.result (ap g.P.Plan.meaning o.0) (ap g.R.Rule.meaning o.1) (ap g.Q.Plan.meaning w.0) (ap g.S.Rule.meaning w.1) o.2 w.2 c.agree.ensures

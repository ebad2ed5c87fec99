use Rattle.std.proofs.Common.{ap, ◌∙◌}
use Rattle.std.proofs.lemmas.Result.{err_from_is_err_and}
use Rattle.listing.specs.Queries.{bad_text}
use Rattle.search.specs.declared.search.Search.{Search}
use Rattle.listing.proofs.Openings.{opened_ok, opened_err}
use Rattle.listing.proofs.query.Query.open.Goals as goal

pub returns-in_err-pattern : goal.returns-in_err-pattern
returns-in_err-pattern g c =
    let p = err_from_is_err_and c.from_residual.result c.from_residual.ensures.1 in
    rw (p.1, p.2) (bad_text c.in_err-pattern.ensures)

pub returns-in_err-pose : goal.returns-in_err-pose
returns-in_err-pose g c =
    let p = err_from_is_err_and c.from_residual-in_err-pose.result c.from_residual-in_err-pose.ensures.1 in
    let h = c.new-enquiry.ensures in
    rw (p.1, p.2) (opened_err c.args.self.text.now c.args.self.start c.args.self.target c.args.self.choice _ _ _ (ap g.P.Plan.meaning h.holds.0) (ap g.R.Rule.meaning h.holds.1.0) h.holds.1.1 c.in_ok-pattern.ensures h.kept c.in_err-pose.ensures.relation)

pub returns : goal.returns
returns g c =
    let h = c.new-enquiry.ensures in
    let k = c.in_ok-pose.ensures in (
      ap (λ (s : Search _ _). s.plan) k.same ∙ h.holds.0,
      ap (λ (s : Search _ _). s.rule) k.same ∙ h.holds.1.0,
      opened_ok c.args.self.text.now c.args.self.start c.args.self.target c.args.self.choice _ _ _ (ap g.P.Plan.meaning h.holds.0) (ap g.R.Rule.meaning h.holds.1.0) h.holds.1.1 (ap (λ (s : Search _ _). s.automaton) k.same) c.in_ok-pattern.ensures h.kept k.relation,
    )

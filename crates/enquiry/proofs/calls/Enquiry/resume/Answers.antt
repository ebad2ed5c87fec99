use Rattle.std.proofs.Common.{Ok, Some}
use Rattle.model.specs.Calls.{Resume}
use Rattle.enquiry.proofs.Judged.{formed_two, resume_refused, resume_faulty, resume_none, resume_some}
use Rattle.search.specs.declared.progress.Progress.TheVariants.{Behind}
use Rattle.enquiry.proofs.Cursors.{moved}
use Rattle.enquiry.proofs.calls.Enquiry.resume.Goals as goal

pub returns-in_default-clause-relation : goal.returns-in_default-clause-relation
returns-in_default-clause-relation g c = rw c.in_default.is (resume_refused (g.P.Plan.meaning c.args.self.now.search.plan) (g.R.Rule.meaning c.args.self.now.search.rule) c.args.self.now.search.automaton _)

pub returns-in-Some-malformed-clause-relation : goal.returns-in-Some-malformed-clause-relation
returns-in-Some-malformed-clause-relation g c = rw c.in-Some.is (resume_faulty _ _ (g.met.R.Rule.keeps c.args.self.now.search.rule) _ c.in-Some.cursor _ _ c.in-Some-malformed.ensures)

pub walk-requires : goal.walk-requires
walk-requires g c = let f = formed_two _ c.in_default-malformed.ensures in record { long = f.0; few = f.1 }

pub returns-in_default-walk-clause-relation : goal.returns-in_default-walk-clause-relation
returns-in_default-walk-clause-relation g c = rw c.in-Some.is (resume_none _ _ (g.met.R.Rule.keeps c.args.self.now.search.rule) _ c.in-Some.cursor _ c.in_default-malformed.ensures c.in_default-walk.ensures)

pub returns-clause-relation : goal.returns-clause-relation
returns-clause-relation g c =
    rw c.in-Some.is
    (moved _ _ _ (λ n s u. Resume n s c.args.words.now (Ok tt) u) (Some c.in-Some.cursor) c.in-Some.cursor (Behind c.in-Some-walk.route) _
    (resume_some _ _ (g.met.R.Rule.keeps c.args.self.now.search.rule) _ c.in-Some.cursor _ c.in-Some-walk.route c.in_default-malformed.ensures c.in-Some-walk.ensures))

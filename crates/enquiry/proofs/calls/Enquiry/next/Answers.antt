use Rattle.std.proofs.Common.{Ok, Some}
use Rattle.model.specs.Calls.{Next}
use Rattle.route.specs.Reading.{track_of}
use Rattle.search.specs.Hunts.{space_of}
use Rattle.search.specs.Trails.{trail, begun}
use Rattle.search.specs.declared.progress.Progress.TheVariants.{Behind}
use Rattle.search.proofs.Deliver.{none_left}
use Rattle.enquiry.proofs.Cursors.{next_refused, next_room, next_none, next_some, leads_on, moved}
use Rattle.enquiry.proofs.calls.Enquiry.next.Goals as goal

pub returns-in_default-clause-relation : goal.returns-in_default-clause-relation
returns-in_default-clause-relation g c = rw c.in_default.is (next_refused (g.P.Plan.meaning c.args.self.now.search.plan) (g.R.Rule.meaning c.args.self.now.search.rule) (g.met.R.Rule.keeps c.args.self.now.search.rule) c.args.self.now.search.automaton _)

pub returns-then-buffer-lt770-clause-relation : goal.returns-then-buffer-lt770-clause-relation
returns-then-buffer-lt770-clause-relation g c = rw c.in-Some.is (next_room _ _ (g.met.R.Rule.keeps c.args.self.now.search.rule) _ c.in-Some.cursor _ c.if-buffer-lt770.true)

pub returns-then-not-arrive-clause-relation : goal.returns-then-not-arrive-clause-relation
returns-then-not-arrive-clause-relation g c =
    let p = c.in-Some.cursor.progress in
    rw c.in-Some.is (next_none (g.P.Plan.meaning c.args.self.now.search.plan) (g.R.Rule.meaning c.args.self.now.search.rule) (g.met.R.Rule.keeps c.args.self.now.search.rule) c.args.self.now.search.automaton c.in-Some.cursor _ c.if-buffer-lt770.false
    (λ st. none_left (space_of (g.P.Plan.meaning c.args.self.now.search.plan) (g.R.Rule.meaning c.args.self.now.search.rule) c.args.self.now.search.automaton c.in-Some.cursor.target c.in-Some.cursor.most) (begun p) c.arrive.result (trail p) (track_of c.arrive.new.route) (trail p) c.if-not-arrive.true (c.arrive.ensures st)))

pub returns-clause-relation : goal.returns-clause-relation
returns-clause-relation g c =
    rw c.in-Some.is
    (moved _ _ _ (λ n s u. Next n s c.args.buffer.now (Ok (Some c.write_record-count.result)) c.write_record-count.new.words u) (Some c.in-Some.cursor) c.in-Some.cursor (Behind c.arrive.new.route) _
    (next_some _ _ (g.met.R.Rule.keeps c.args.self.now.search.rule) _ c.in-Some.cursor _ _ c.write_record-count.result c.arrive.new.route c.if-buffer-lt770.false c.write_record-count.ensures.count c.write_record-count.ensures.wrote (c.if-not-arrive.ensures)))

pub returns-clause-forward : goal.returns-clause-forward
returns-clause-forward g c =
    rw c.in-Some.is
    (leads_on (g.P.Plan.meaning c.args.self.now.search.plan) (g.R.Rule.meaning c.args.self.now.search.rule) c.args.self.now.search.automaton c.in-Some.cursor c.arrive.new.route (c.if-not-arrive.ensures))

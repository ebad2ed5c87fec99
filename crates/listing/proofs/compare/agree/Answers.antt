use Rattle.std.proofs.Common.{Some, None, refl, ap, ◌∙◌}
use Rattle.search.specs.declared.search.Search.{Search}
use Rattle.listing.proofs.Sides.{steps_at, leads_at, nearer, goes_under_way, beside_start, beside_on, listed_differ, listed_left, listed_end}
use Rattle.listing.proofs.compare.agree.Goals as goal

pub loop-n-init : goal.loop-n-init
loop-n-init g c = (refl, refl, c.requires, beside_start (g.P.Plan.meaning c.args.left.now.search.plan) (g.R.Rule.meaning c.args.left.now.search.rule) c.args.left.now.search.automaton c.args.left.now.cursor (g.Q.Plan.meaning c.args.right.now.search.plan) (g.S.Rule.meaning c.args.right.now.search.rule) c.args.right.now.search.automaton c.args.right.now.cursor, refl, refl)

pub returns-in_default-following : goal.returns-in_default-following
returns-in_default-following g c =
    let i = c.loop-n.invariant in
    listed_left (g.P.Plan.meaning c.args.left.now.search.plan) (g.R.Rule.meaning c.args.left.now.search.rule) (g.met.R.Rule.keeps c.args.left.now.search.rule) c.args.left.now.search.automaton c.args.left.now.cursor (g.Q.Plan.meaning c.args.right.now.search.plan) (g.S.Rule.meaning c.args.right.now.search.rule) (g.met.S.Rule.keeps c.args.right.now.search.rule) c.args.right.now.search.automaton c.args.right.now.cursor c.loop-n.left.cursor c.loop-n.right.cursor i.3 c.following.new.enquiry.cursor c.following-in-Some.new.enquiry.cursor c.following.new.buffer c.following-in-Some.new.buffer c.in-Some.n
    (steps_at c.loop-n.left.cursor c.following.new.enquiry.cursor (Some c.in-Some.n) c.following.new.buffer (ap (λ (s : Search _ _). g.P.Plan.meaning s.plan) i.0) (ap (λ (s : Search _ _). g.R.Rule.meaning s.rule) i.0) (ap (λ (s : Search _ _). s.automaton) i.0) c.in-Some.ensures.step)
    (steps_at c.loop-n.right.cursor c.following-in-Some.new.enquiry.cursor None c.following-in-Some.new.buffer (ap (λ (s : Search _ _). g.Q.Plan.meaning s.plan) i.1) (ap (λ (s : Search _ _). g.S.Rule.meaning s.rule) i.1) (ap (λ (s : Search _ _). s.automaton) i.1) c.in_default-following.ensures.step)

pub returns-then-not-same_record : goal.returns-then-not-same_record
returns-then-not-same_record g c =
    let i = c.loop-n.invariant in
    listed_differ (g.P.Plan.meaning c.args.left.now.search.plan) (g.R.Rule.meaning c.args.left.now.search.rule) (g.met.R.Rule.keeps c.args.left.now.search.rule) c.args.left.now.search.automaton c.args.left.now.cursor (g.Q.Plan.meaning c.args.right.now.search.plan) (g.S.Rule.meaning c.args.right.now.search.rule) (g.met.S.Rule.keeps c.args.right.now.search.rule) c.args.right.now.search.automaton c.args.right.now.cursor c.loop-n.left.cursor c.loop-n.right.cursor i.3 c.following.new.enquiry.cursor c.following-in-Some.new.enquiry.cursor c.following.new.buffer c.following-in-Some.new.buffer c.in-Some.n c.in-Some-following.m
    (steps_at c.loop-n.left.cursor c.following.new.enquiry.cursor (Some c.in-Some.n) c.following.new.buffer (ap (λ (s : Search _ _). g.P.Plan.meaning s.plan) i.0) (ap (λ (s : Search _ _). g.R.Rule.meaning s.rule) i.0) (ap (λ (s : Search _ _). s.automaton) i.0) c.in-Some.ensures.step)
    (steps_at c.loop-n.right.cursor c.following-in-Some.new.enquiry.cursor (Some c.in-Some-following.m) c.following-in-Some.new.buffer (ap (λ (s : Search _ _). g.Q.Plan.meaning s.plan) i.1) (ap (λ (s : Search _ _). g.S.Rule.meaning s.rule) i.1) (ap (λ (s : Search _ _). s.automaton) i.1) c.in-Some-following.ensures.step)
    c.if-not-same_record.ensures

pub loop-n-smaller : goal.loop-n-smaller
loop-n-smaller g c =
    let i = c.loop-n.invariant in
    nearer (g.P.Plan.meaning c.args.left.now.search.plan) (g.R.Rule.meaning c.args.left.now.search.rule) c.args.left.now.search.automaton c.loop-n.left.cursor c.following.new.enquiry.cursor c.in-Some.n i.2 (leads_at c.loop-n.left.cursor c.following.new.enquiry.cursor c.in-Some.n (ap (λ (s : Search _ _). g.P.Plan.meaning s.plan) i.0) (ap (λ (s : Search _ _). g.R.Rule.meaning s.rule) i.0) (ap (λ (s : Search _ _). s.automaton) i.0) c.in-Some.ensures.forward)

pub loop-n-preserved : goal.loop-n-preserved
loop-n-preserved g c =
    let i = c.loop-n.invariant in
    let l = c.following.ensures.same in
    let r = c.following-in-Some.ensures.same in (
      l ∙ i.0,
      r ∙ i.1,
      goes_under_way (g.P.Plan.meaning c.args.left.now.search.plan) (g.R.Rule.meaning c.args.left.now.search.rule) c.args.left.now.search.automaton c.loop-n.left.cursor c.following.new.enquiry.cursor c.in-Some.n i.2 (leads_at c.loop-n.left.cursor c.following.new.enquiry.cursor c.in-Some.n (ap (λ (s : Search _ _). g.P.Plan.meaning s.plan) i.0) (ap (λ (s : Search _ _). g.R.Rule.meaning s.rule) i.0) (ap (λ (s : Search _ _). s.automaton) i.0) c.in-Some.ensures.forward),
      beside_on (g.P.Plan.meaning c.args.left.now.search.plan) (g.R.Rule.meaning c.args.left.now.search.rule) (g.met.R.Rule.keeps c.args.left.now.search.rule) c.args.left.now.search.automaton c.args.left.now.cursor (g.Q.Plan.meaning c.args.right.now.search.plan) (g.S.Rule.meaning c.args.right.now.search.rule) (g.met.S.Rule.keeps c.args.right.now.search.rule) c.args.right.now.search.automaton c.args.right.now.cursor c.loop-n.left.cursor c.loop-n.right.cursor i.3 c.following.new.enquiry.cursor c.following-in-Some.new.enquiry.cursor c.following.new.buffer c.following-in-Some.new.buffer c.in-Some.n c.in-Some-following.m
          (steps_at c.loop-n.left.cursor c.following.new.enquiry.cursor (Some c.in-Some.n) c.following.new.buffer (ap (λ (s : Search _ _). g.P.Plan.meaning s.plan) i.0) (ap (λ (s : Search _ _). g.R.Rule.meaning s.rule) i.0) (ap (λ (s : Search _ _). s.automaton) i.0) c.in-Some.ensures.step)
          (steps_at c.loop-n.right.cursor c.following-in-Some.new.enquiry.cursor (Some c.in-Some-following.m) c.following-in-Some.new.buffer (ap (λ (s : Search _ _). g.Q.Plan.meaning s.plan) i.1) (ap (λ (s : Search _ _). g.S.Rule.meaning s.rule) i.1) (ap (λ (s : Search _ _). s.automaton) i.1) c.in-Some-following.ensures.step)
          c.following.array_long c.following-in-Some.array_long c.if-not-same_record.ensures,
      c.following.array_long,
      c.following-in-Some.array_long,
    )

pub returns : goal.returns
returns g c =
    let i = c.loop-n.invariant in
    listed_end (g.P.Plan.meaning c.args.left.now.search.plan) (g.R.Rule.meaning c.args.left.now.search.rule) (g.met.R.Rule.keeps c.args.left.now.search.rule) c.args.left.now.search.automaton c.args.left.now.cursor (g.Q.Plan.meaning c.args.right.now.search.plan) (g.S.Rule.meaning c.args.right.now.search.rule) (g.met.S.Rule.keeps c.args.right.now.search.rule) c.args.right.now.search.automaton c.args.right.now.cursor c.loop-n.left.cursor c.loop-n.right.cursor i.3 c.following.new.enquiry.cursor c.following-2.new.enquiry.cursor c.following.new.buffer c.following-2.new.buffer c.following-2.result c.is_none.result c.is_none.ensures
    (steps_at c.loop-n.left.cursor c.following.new.enquiry.cursor None c.following.new.buffer (ap (λ (s : Search _ _). g.P.Plan.meaning s.plan) i.0) (ap (λ (s : Search _ _). g.R.Rule.meaning s.rule) i.0) (ap (λ (s : Search _ _). s.automaton) i.0) c.in_default.ensures.step)
    (steps_at c.loop-n.right.cursor c.following-2.new.enquiry.cursor c.following-2.result c.following-2.new.buffer (ap (λ (s : Search _ _). g.Q.Plan.meaning s.plan) i.1) (ap (λ (s : Search _ _). g.S.Rule.meaning s.rule) i.1) (ap (λ (s : Search _ _). s.automaton) i.1) c.following-2.ensures.step)

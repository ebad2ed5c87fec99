use Rattle.std.proofs.Common.{◌≡◌, length, sym, refl, ap, ◌∙◌, arith}
use Rattle.model.specs.Runs.{pose, next, again, check, resume}
use Rattle.model.specs.Replies.{next_call, check_call, resume_call}
use Rattle.listing.specs.Events.{call_of, next_told}
use Rattle.listing.proofs.Turns.{performs, whole_taken}
use Rattle.listing.proofs.perform.perform.Goals as goal

pub returns-in-Pose : goal.returns-in-Pose
returns-in-Pose g c = record { told = performs _ _ _ _ _ c.args.call _ (pose _ _ _ _) (sym (ap call_of c.in-Pose.is)) refl c.pose.ensures.relation; same = c.pose.ensures.same }

pub returns-in-Next : goal.returns-in-Next
returns-in-Next g c =
    let e : length c.next-outcome.new.buffer ≡ c.in-Next.words.len = omega (arith, c.next-outcome.auto.buffer, c.as_mut_slice.ensures.len) in
    record { told = performs _ _ _ _ _ c.args.call _ (next _ _ _) (ap next_call c.as_mut_slice.ensures.value ∙ sym (ap call_of c.in-Next.is)) (ap (next_told c.next-outcome.result) (sym (whole_taken c.in-Next.words.len c.next-outcome.new.buffer _ e))) c.next-outcome.ensures.relation; same = c.next-outcome.ensures.same }

pub returns-in-Again : goal.returns-in-Again
returns-in-Again g c = record { told = performs _ _ _ _ _ c.args.call _ (again _) (sym (ap call_of c.in-Again.is)) refl c.again.ensures.relation; same = c.again.ensures.same }

pub returns-in-Check : goal.returns-in-Check
returns-in-Check g c = record { told = performs _ _ _ _ _ c.args.call _ (check _ _) (ap check_call c.as_slice.ensures.value ∙ sym (ap call_of c.in-Check.is)) refl c.check.ensures; same = refl }

pub returns-in-Resume : goal.returns-in-Resume
returns-in-Resume g c = record { told = performs _ _ _ _ _ c.args.call _ (resume _ _) (ap resume_call c.as_slice-in-Resume.ensures.value ∙ sym (ap call_of c.in-Resume.is)) refl c.resume.ensures.relation; same = c.resume.ensures.same }

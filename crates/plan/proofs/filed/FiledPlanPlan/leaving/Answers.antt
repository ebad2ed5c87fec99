use Rattle.std.proofs.Common.{◌≡◌, ℕ, true, List, sym, subst}
use Rattle.model.specs.Plans.{LeastLeaving}
use Rattle.plan.specs.Filed.{accepted, filed_passage}
use Rattle.plan.specs.FiledFacts.{Kept, kept}
use Rattle.plan.proofs.Leavings.{starts_rise, leaving_from}
use Rattle.plan.proofs.filed.FiledPlanPlan.leaving.Goals as goal

kept_as : (a b : List ℕ) → a ≡ b → accepted b ≡ true → Kept a
kept_as a b e s = kept a (subst (λ (x : List ℕ). accepted x ≡ true) (sym e) s)

pub least_from-requires : goal.least_from-requires
least_from-requires c = rw (c.start.ensures, c.start-2.ensures) (starts_rise _ (kept_as _ _ c.file-file.ensures c.args.self.now.sound) c.args.zone)

pub returns : goal.returns
returns c =
    subst (λ (b : List ℕ). LeastLeaving (filed_passage b) c.args.zone c.args.from c.least_from.result) c.file-file.ensures
    (leaving_from _ (kept_as _ _ c.file-file.ensures c.args.self.now.sound) c.args.zone c.args.from c.least_from.result (rw (← c.start.ensures, ← c.start-2.ensures) c.least_from.ensures))

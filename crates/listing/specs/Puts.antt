-- A question put in full by a caller.
use Rattle.model.specs.Plans.{PlanMeaning}
use Rattle.model.specs.Rules.{RuleMeaning}
use Rattle.listing.specs.Queries.{FullQuestion, full}
use Rattle.listing.specs.declared.query.Query.{Query}

-- The question that it puts, by what plans and rules mean.
abbrev pub put : {P R : Type 0} → (P → PlanMeaning) → (R → RuleMeaning) → Query P R → FullQuestion
put plan_of rule_of q = full (plan_of q.plan) (rule_of q.rule) q.text.now q.start q.target q.choice

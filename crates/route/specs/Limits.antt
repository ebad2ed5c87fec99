-- How long an allowed route can be.
use Rattle.std.specs.Prelude.{ℕ, ◌≤◌, min}
use Rattle.model.specs.Plans.{PlanMeaning}
use Rattle.model.specs.Routes.{Route, IsPath, len}
use Rattle.model.specs.Rules.{RuleMeaning, Allowed, Plain, KeepsLaws}

-- The length that a search need not pass under a rule: the greatest that the rule states, or 256 if that is less.
abbrev pub limit : RuleMeaning → ℕ
limit ru = min ru.greatest 256

-- No allowed route is longer than n, neither one with zones below 64, passages below 256 and equal passages that reach
-- equal zones, nor a path of a plan.
pub record AtMost (ru : RuleMeaning) (n : ℕ) : Type 0 where
  pub plain_routes : (r : Route) → Plain r → Allowed ru r → len r ≤ n
  pub paths : (pl : PlanMeaning) (r : Route) → IsPath pl r → Allowed ru r → len r ≤ n

-- No route that a lawful rule allows is longer than its limit; so none is longer than 256, whatever the rule states.
abbrev pub RoutesAreShort : Type 0
RoutesAreShort = (ru : RuleMeaning) → KeepsLaws ru → AtMost ru (limit ru)

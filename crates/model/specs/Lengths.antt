-- The greatest lengths of the three rules are no greater than they need be.
use Rattle.std.specs.Prelude.{◌≡◌}
use Rattle.model.specs.Routes.{Route, len}
use Rattle.model.specs.Rules.{RuleMeaning, Allowed, Plain, trail, acyclic, simple}

-- Some route of which the laws speak is allowed, and is of the greatest length.
pub record Reached (ru : RuleMeaning) : Type 0 where
  pub route : Route
  pub plain : Plain route
  pub allowed : Allowed ru route
  pub longest : len route ≡ ru.greatest

-- Each of the three rules has such a route.
pub record LengthsReached : Type 0 where
  pub trail_reached : Reached trail
  pub acyclic_reached : Reached acyclic
  pub simple_reached : Reached simple

-- Routes through a plan.
use Rattle.std.specs.Prelude.{◌≡◌, ℕ, ◌<◌, List, [], ◌∷◌, ◌++◌, map, length, Some}
use Rattle.model.specs.Plans.{PlanMeaning}

-- One step: the number of the passage, and the zone that it reaches.
pub record Step : Type 0 where
  pub number : ℕ
  pub reached : ℕ

-- A route: its start zone, and its steps in turn.
pub record Route : Type 0 where
  pub start : ℕ
  pub steps : List Step

-- The zone in which steps from a zone end.
abbrev pub end_from : ℕ → List Step → ℕ
end_from v [] = v
end_from v (s ∷ ss) = end_from s.reached ss

-- The zone in which a route ends.
abbrev pub end : Route → ℕ
end r = end_from r.start r.steps

-- The passages of a route, in turn.
abbrev pub passages : Route → List ℕ
passages r = map (λ (s : Step). s.number) r.steps

-- The zones of a route in turn, the start first.
abbrev pub zones_of : Route → List ℕ
zones_of r = r.start ∷ map (λ (s : Step). s.reached) r.steps

-- How many passages a route has.
abbrev pub len : Route → ℕ
len r = length r.steps

-- The passage of the step leads in the plan from the zone v to the zone that the step reaches.
abbrev pub Leads : PlanMeaning → ℕ → Step → Type 0
Leads pl v s = (k : ℕ) × (pl.passage s.number ≡ Some (record { origin = v; destination = s.reached; kind = k }))

-- The steps lead on from one another in the plan, the first from the zone v.
abbrev pub Along : PlanMeaning → ℕ → List Step → Type 0
Along pl v [] = Unit {0}
Along pl v (s ∷ ss) = Leads pl v s × Along pl s.reached ss

-- A path: it starts in a zone of the plan, and each passage leads from the zone before it to the zone reached.
abbrev pub IsPath : PlanMeaning → Route → Type 0
IsPath pl r = (r.start < pl.zones) × Along pl r.start r.steps

-- The route t is r and then q, which starts where r ends.
pub record Joined (r q t : Route) : Type 0 where
  pub meet : end r ≡ q.start
  pub from : t.start ≡ r.start
  pub on : t.steps ≡ r.steps ++ q.steps

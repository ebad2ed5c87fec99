-- The bounds of a plan at their edges, and what leaves the zones of a small floor.
use Rattle.std.specs.Prelude.{◌≡◌, ℕ, List, [], ◌∷◌, Some, None, Option, ◌≢◌}
use Rattle.model.specs.Plans.{PlanMeaning, Passage, BoundsBy, triple, LeastLeaving}
use Rattle.model.specs.Examples.{floor_e}

-- A passage from the zone a to the zone b, of the kind k.
abbrev pub passage_of : ℕ → ℕ → ℕ → Option Passage
passage_of a b k = Some (record { origin = a; destination = b; kind = k })

-- What a plan may have at most, and what it may not have.
pub record BoundsAre : Type 0 where
  -- some plan has 64 zones, none has 65 or none at all
  pub most_zones : (pl : PlanMeaning) × (pl.zones ≡ 64)
  pub no_65_zones : (pl : PlanMeaning) → pl.zones ≢ 65
  pub no_0_zones : (pl : PlanMeaning) → pl.zones ≢ 0
  -- of two zones and kinds 0 to 7, the passage 255 may lead from 1 to 1 and be of kind 7
  pub last : BoundsBy 2 255 (passage_of 1 1 7)
  pub no_256 : BoundsBy 2 256 (passage_of 1 1 7) → ⊥
  pub no_origin_2 : BoundsBy 2 255 (passage_of 2 1 7) → ⊥
  pub no_destination_2 : BoundsBy 2 255 (passage_of 1 2 7) → ⊥
  pub no_kind_8 : BoundsBy 2 255 (passage_of 1 1 8) → ⊥

-- One answer of the question `leaving`: the zone, the number to begin with, and the passage.
pub record Departure : Type 0 where
  pub zone : ℕ
  pub at_least : ℕ
  pub first : Option ℕ

-- An answer by its parts.
abbrev pub departure : ℕ → ℕ → Option ℕ → Departure
departure z p o = record { zone = z; at_least = p; first = o }

-- Every answer of a table is right for a plan.
abbrev pub AllLeave : PlanMeaning → List Departure → Type 0
AllLeave pl [] = Unit {0}
AllLeave pl (d ∷ ds) = LeastLeaving pl.passage d.zone d.at_least d.first × AllLeave pl ds

-- What leaves the zones of floor E.
abbrev pub departures_e : List Departure
departures_e = departure 0 0 (Some 0) ∷ departure 0 1 (Some 1) ∷ departure 0 2 None ∷ departure 1 0 (Some 2) ∷ departure 1 3 (Some 4) ∷ departure 2 0 (Some 3) ∷ departure 3 0 None ∷ departure 4 0 None ∷ []

-- The edges of the bounds, and the two other questions of a plan on floor E.
pub record Edges : Type 0 where
  pub bounds_are : BoundsAre
  pub departures : AllLeave floor_e departures_e
  pub passage_4 : triple (floor_e.passage 4) ≡ Some (1, 2, 0)
  pub passage_5 : triple (floor_e.passage 5) ≡ None

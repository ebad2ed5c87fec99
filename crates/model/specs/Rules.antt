-- Passing rules, and the three ways of restricting routes.
use Rattle.std.specs.Prelude.{◌≡◌, ℕ, suc, ◌<◌, ◌≤◌, Bool, false, not, ◌&&◌, ◌||◌, T, ◌↔◌, List, [], ◌∷◌, ◌++◌, map, ◌==◌, ◌≢◌, slice_index}
use Rattle.model.specs.Routes.{Step, Route, passages, zones_of, len, end}

-- A trail: no two places of the route have the same passage.
abbrev pub Trail : Route → Type 0
Trail r = (i j : ℕ) → i < j → j < len r → slice_index (passages r) i ≢ slice_index (passages r) j

-- Acyclic: no two places have the same zone, the start included.
abbrev pub Acyclic : Route → Type 0
Acyclic r = (i j : ℕ) → i < j → j ≤ len r → slice_index (zones_of r) i ≢ slice_index (zones_of r) j

-- Simple: no two places have the same zone, except perhaps the first and the last.
abbrev pub Simple : Route → Type 0
Simple r = (i j : ℕ) → i < j → j ≤ len r → slice_index (zones_of r) i ≡ slice_index (zones_of r) j → (i ≡ 0) × (j ≡ len r)

-- The meaning of a passing rule: whether a route may go on by a passage into a zone, and the greatest length.
pub record RuleMeaning : Type 0 where
  pub permits : Route → ℕ → ℕ → Bool
  pub greatest : ℕ

-- A route is allowed if each of its steps may be added to the part before it.
abbrev pub Allowed : RuleMeaning → Route → Type 0
Allowed ru r = (before after : List Step) (s : Step) → r.steps ≡ before ++ (s ∷ after) → T (ru.permits (record { start = r.start; steps = before }) s.number s.reached)

-- The routes of which the laws speak: zones below 64, passages below 256, and equal passages reach equal zones.
pub record Plain (r : Route) : Type 0 where
  pub start_low : r.start < 64
  pub reached_low : (i : ℕ) → i ≤ len r → slice_index (zones_of r) i < 64
  pub number_low : (i : ℕ) → i < len r → slice_index (passages r) i < 256
  pub alike : (i j : ℕ) → i < len r → j < len r → slice_index (passages r) i ≡ slice_index (passages r) j → slice_index (zones_of r) (suc i) ≡ slice_index (zones_of r) (suc j)

-- The two laws of every rule: an allowed route uses no passage twice, and is no longer than the greatest length.
pub record KeepsLaws (ru : RuleMeaning) : Type 0 where
  pub no_passage_twice : (r : Route) → Plain r → Allowed ru r → Trail r
  pub no_longer : (r : Route) → Plain r → Allowed ru r → len r ≤ ru.greatest

-- Whether a number is in a list.
abbrev pub mem : ℕ → List ℕ → Bool
mem p [] = false
mem p (q ∷ qs) = p == q || mem p qs

-- The rule trail: the passage is not yet used.
abbrev pub trail : RuleMeaning
trail = record { permits = λ r p z. not (mem p (passages r)); greatest = 256 }

-- The rule acyclic: the zone reached is not yet visited, the start included.
abbrev pub acyclic : RuleMeaning
acyclic = record { permits = λ r p z. not (mem z (zones_of r)); greatest = 63 }

-- The rule simple: the zone reached is not among the zones after the start, and a route of at least one passage is not
-- back at its start.
abbrev pub simple : RuleMeaning
simple = record { permits = λ r p z. not (mem z (map (λ (s : Step). s.reached) r.steps)) && (len r == 0 || not (end r == r.start)); greatest = 64 }

-- The three rules allow exactly the routes of the three restrictions, and keep the laws.
pub record Restrictors : Type 0 where
  pub trail_is : (r : Route) → Allowed trail r ↔ Trail r
  pub acyclic_is : (r : Route) → Allowed acyclic r ↔ Acyclic r
  pub simple_is : (r : Route) → Allowed simple r ↔ Simple r
  pub trail_keeps : KeepsLaws trail
  pub acyclic_keeps : KeepsLaws acyclic
  pub simple_keeps : KeepsLaws simple

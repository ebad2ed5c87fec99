-- What a plan means, and what its three questions answer.
use Rattle.std.specs.Prelude.{◌≡◌, ℕ, ◌<◌, ◌≤◌, Some, None, Option}

-- A passage leads from its origin zone to its destination zone, and is of a kind.
pub record Passage : Type 0 where
  pub origin : ℕ
  pub destination : ℕ
  pub kind : ℕ

-- The bounds on a passage number n: a passage under it has n below 256, both ends below the number of zones, and a
-- kind below 8.
abbrev pub BoundsBy : ℕ → ℕ → Option Passage → Type 0
BoundsBy zones n (Some p) = (n < 256) × (p.origin < zones) × (p.destination < zones) × (p.kind < 8)
BoundsBy zones n None = Unit {0}

-- The meaning of a plan: how many zones it has, 1 to 64, and which passage each number names, if any.
pub record PlanMeaning : Type 0 where
  pub zones : ℕ
  pub passage : ℕ → Option Passage
  pub some_zone : 1 ≤ zones
  pub few_zones : zones ≤ 64
  pub bounded : (n : ℕ) → BoundsBy zones n (passage n)

-- A passage as the question `passage` answers it: origin, destination and kind together.
abbrev pub triple : Option Passage → Option (ℕ × ℕ × ℕ)
triple (Some p) = Some (p.origin, p.destination, p.kind)
triple None = None

-- There is a passage, and it leaves the zone.
abbrev pub LeavesBy : Option Passage → ℕ → Type 0
LeavesBy (Some p) zone = p.origin ≡ zone
LeavesBy None zone = ⊥

-- The number n names a passage that leaves the zone.
abbrev pub Leaves : (ℕ → Option Passage) → ℕ → ℕ → Type 0
Leaves passage zone n = LeavesBy (passage n) zone

-- The answer of the question `leaving`: the least number not below `from` whose passage leaves the zone, or none.
abbrev pub LeastLeaving : (ℕ → Option Passage) → ℕ → ℕ → Option ℕ → Type 0
LeastLeaving passage zone from (Some n) = (from ≤ n) × Leaves passage zone n × ((k : ℕ) → from ≤ k → k < n → Leaves passage zone k → ⊥)
LeastLeaving passage zone from None = (k : ℕ) → from ≤ k → Leaves passage zone k → ⊥

-- A plan file in words: when it breaks a rule, which fault is the first, and what an accepted file describes.
use Rattle.std.specs.Prelude.{◌≡◌, ℕ, suc, ◌+◌, ◌<◌, ◌≤◌, min, ◌↔◌, List, length, Some, ◌≢◌}
use Rattle.fault.specs.declared.PlanFault.{PlanFault}
use Rattle.fault.specs.declared.PlanFault.TheVariants.{Short, Zones, Passages, Length, Entry, Repeated, Destination, Kind, Cells, Sheet}
use Rattle.fault.specs.declared.Fault.{Fault}
use Rattle.fault.specs.declared.Fault.TheVariants.{Plan, Pattern, Enquiry}
use Rattle.model.specs.Plans.{Passage, PlanMeaning}
use Rattle.plan.specs.Filed.{zone_count_of, count_of, size_of, entry_place, entry_of, end_of, body_place_lem, number_of, destination_of, kind_of}

-- The rules of a plan file, each with the fault that a breach of it is.
pub data Breaks (b : List ℕ) : PlanFault → Type 0 where
  -- it has at least three bytes
  under_three : length b < 3 → Breaks b (Short (length b))
  -- it has 1 to 64 zones
  no_zone : zone_count_of b ≡ 0 → Breaks b (Zones 0)
  over_64 : 64 < zone_count_of b → Breaks b (Zones 0)
  -- it has at most 256 passages
  over_256 : 256 < count_of b → Breaks b (Passages 1)
  -- it has just the bytes that its zones and passages take
  other_length : (length b ≢ size_of b) → Breaks b (Length (min (length b) (size_of b)))
  -- the first entry is 0, no entry is below the one before it, none is over the number of passages
  not_from_0 : (entry_of b 0 ≢ 0) → Breaks b (Entry (entry_place 0))
  falls : (z : ℕ) → suc z < zone_count_of b → entry_of b (suc z) < entry_of b z → Breaks b (Entry (entry_place (suc z)))
  passes : (z : ℕ) → z < zone_count_of b → count_of b < entry_of b z → Breaks b (Entry (entry_place z))
  -- no body has the number of an earlier body
  repeats : (j i : ℕ) → j < i → i < count_of b → number_of b j ≡ number_of b i → Breaks b (Repeated (body_place_lem b i))
  -- every destination is a zone
  leads_out : (i : ℕ) → i < count_of b → zone_count_of b ≤ destination_of b i → Breaks b (Destination (body_place_lem b i + 1))
  -- every kind is at most 7
  no_kind : (i : ℕ) → i < count_of b → 7 < kind_of b i → Breaks b (Kind (body_place_lem b i + 2))

-- The order of the tests: length, zones, passages and size first; then the file from front to back.
abbrev pub turn : PlanFault → ℕ
turn (Short at) = 0
turn (Zones at) = 1
turn (Passages at) = 2
turn (Length at) = 3
turn (Entry at) = 4 + at
turn (Repeated at) = 4 + at
turn (Destination at) = 4 + at
turn (Kind at) = 4 + at
turn (Cells at) = 0
turn (Sheet at) = 0

-- The fault f is the first of the file: that rule is broken there, and whatever else is broken does not come before it.
pub record FirstFault (b : List ℕ) (f : PlanFault) : Type 0 where
  pub broken : Breaks b f
  pub first : (g : PlanFault) → Breaks b g → turn f ≤ turn g

-- No rule is broken.
abbrev pub KeepsRules : List ℕ → Type 0
KeepsRules b = (f : PlanFault) → Breaks b f → ⊥

-- The file has a body with the number n that stands among the bodies of the origin of p, from that zone's entry to its
-- end, and has the destination and the kind of p.
pub record Body (b : List ℕ) (n : ℕ) (p : Passage) : Type 0 where
  pub body : ℕ
  pub there : body < count_of b
  pub zone : p.origin < zone_count_of b
  pub starts : entry_of b p.origin ≤ body
  pub ends : body < end_of b p.origin
  pub numbered : number_of b body ≡ n
  pub reaches : destination_of b body ≡ p.destination
  pub sorted : kind_of b body ≡ p.kind

-- The meaning m is what the file describes: its zones, and under each number below 256 the passage of its body.
pub record Describes (b : List ℕ) (m : PlanMeaning) : Type 0 where
  pub zones : m.zones ≡ zone_count_of b
  pub passages : (n : ℕ) (p : Passage) → n < 256 → (m.passage n ≡ Some p) ↔ Body b n p

-- What opening a file refuses it with: the first fault, of the plan layer.
abbrev pub RefusedFor : List ℕ → Fault → Type 0
RefusedFor b (Plan f) = FirstFault b f
RefusedFor b (Pattern f) = ⊥
RefusedFor b (Enquiry f) = ⊥

-- What opening a file gives: no rule is broken, and the plan means what the file describes.
pub record Opened (b : List ℕ) (m : PlanMeaning) : Type 0 where
  pub keeps : KeepsRules b
  pub describes : Describes b m

-- What the bytes of a filed plan mean, and the first fault in them.
use Rattle.std.specs.Prelude.{◌≡◌, ℕ, zero, suc, ◌+◌, ◌-◌, ◌*◌, ◌<◌, ◌≤◌, min, Bool, cond, not, ◌||◌, List, length, is_some, Some, None, Option, ◌==◌, nat_le, nat_lt, slice_index}
use Rattle.fault.specs.declared.PlanFault.{PlanFault}
use Rattle.fault.specs.declared.PlanFault.TheVariants.{Short, Zones, Passages, Length, Entry, Repeated, Destination, Kind}
use Rattle.fault.specs.declared.Fault.{Fault}
use Rattle.fault.specs.declared.Fault.TheVariants.{Plan}
use Rattle.model.specs.Plans.{Passage}
use Rattle.plan.specs.First.{when, or_else, first_below}

-- two bytes, low byte first
abbrev pub word_at : List ℕ → ℕ → ℕ
word_at b i = slice_index b i + 256 * slice_index b (i + 1)

-- Z, M and the size that follows
abbrev pub zone_count_of : List ℕ → ℕ
zone_count_of b = slice_index b 0

abbrev pub count_of : List ℕ → ℕ
count_of b = word_at b 1

abbrev pub size_of : List ℕ → ℕ
size_of b = 3 + 2 * zone_count_of b + 3 * count_of b

-- the place and the value of the entry of zone z
abbrev pub entry_place : ℕ → ℕ
entry_place z = 3 + 2 * z

abbrev pub entry_of : List ℕ → ℕ → ℕ
entry_of b z = word_at b (entry_place z)

-- the place of body i, and what the body holds
abbrev pub body_place_lem : List ℕ → ℕ → ℕ
body_place_lem b i = 3 + 2 * zone_count_of b + 3 * i

abbrev pub number_of : List ℕ → ℕ → ℕ
number_of b i = slice_index b (body_place_lem b i)

abbrev pub destination_of : List ℕ → ℕ → ℕ
destination_of b i = slice_index b (body_place_lem b i + 1)

abbrev pub kind_of : List ℕ → ℕ → ℕ
kind_of b i = slice_index b (body_place_lem b i + 2)

-- the first of the bodies below i that has the number n
abbrev pub body_below_lem : List ℕ → ℕ → ℕ → Option ℕ
body_below_lem b n i = first_below (λ j. when (number_of b j == n) j) i

-- the last of the zones below z whose entry is not over i: the owner of body i
unfoldable pub owner_below : List ℕ → ℕ → ℕ → ℕ
owner_below b i zero = 0
owner_below b i (suc z) = cond (nat_le (entry_of b z) i) z (owner_below b i z)

abbrev pub passage_by : List ℕ → Option ℕ → Option Passage
passage_by b (Some i) = Some (record { origin = owner_below b i (zone_count_of b); destination = destination_of b i; kind = kind_of b i })
passage_by b None = None

-- the meaning
abbrev pub filed_passage : List ℕ → ℕ → Option Passage
filed_passage b n = cond (nat_lt n 256) (passage_by b (body_below_lem b n (count_of b))) None

-- the faults, in the order in which they are tested
abbrev pub head_fault : List ℕ → Option PlanFault
head_fault b =
    or_else (when (nat_lt (length b) 3) (Short (length b)))
    (or_else (when (zone_count_of b == 0 || nat_lt 64 (zone_count_of b)) (Zones 0))
    (or_else (when (nat_lt 256 (count_of b)) (Passages 1))
    (when (not (length b == size_of b)) (Length (min (length b) (size_of b))))))

abbrev pub bad_entry_lem : List ℕ → ℕ → Bool
bad_entry_lem b z = cond (z == 0) (not (entry_of b z == 0)) (nat_lt (entry_of b z) (entry_of b (z - 1))) || nat_lt (count_of b) (entry_of b z)

abbrev pub entry_fault : List ℕ → ℕ → Option PlanFault
entry_fault b z = when (bad_entry_lem b z) (Entry (entry_place z))

abbrev pub body_fault : List ℕ → ℕ → Option PlanFault
body_fault b i =
    or_else (when (is_some (body_below_lem b (number_of b i) i)) (Repeated (body_place_lem b i)))
    (or_else (when (nat_le (zone_count_of b) (destination_of b i)) (Destination (body_place_lem b i + 1)))
    (when (nat_lt 7 (kind_of b i)) (Kind (body_place_lem b i + 2))))

abbrev pub file_fault : List ℕ → Option PlanFault
file_fault b = or_else (head_fault b) (or_else (first_below (entry_fault b) (zone_count_of b)) (first_below (body_fault b) (count_of b)))

-- what the tests 10 to 13 leave
pub record Framed (b : List ℕ) : Type 0 where
  pub long : 3 ≤ length b
  pub some_zone : 1 ≤ zone_count_of b
  pub few_zones : zone_count_of b ≤ 64
  pub few_passages : count_of b ≤ 256
  pub sized : length b ≡ size_of b

-- no fault
abbrev pub accepted : List ℕ → Bool
accepted b = not (is_some (file_fault b))

-- where the bodies of zone z start, and past the last zone how many there are
abbrev pub start_of : List ℕ → ℕ → ℕ
start_of b z = cond (nat_lt z (zone_count_of b)) (entry_of b z) (count_of b)

-- where the bodies of zone z end
abbrev pub end_of : List ℕ → ℕ → ℕ
end_of b z = cond (nat_lt (z + 1) (zone_count_of b)) (entry_of b (z + 1)) (count_of b)

-- n is the least number not below `from` of the bodies from `first` up to `end`
pub record Among (b : List ℕ) (first end from n : ℕ) : Type 0 where
  pub body : ℕ
  pub not_before : first ≤ body
  pub within : body < end
  pub numbered : number_of b body ≡ n
  pub high : from ≤ n
  pub low : n < 256
  pub least : (j : ℕ) → first ≤ j → j < end → from ≤ number_of b j → n ≤ number_of b j

abbrev pub LeastAmong : List ℕ → ℕ → ℕ → ℕ → Option ℕ → Type 0
LeastAmong b first end from (Some n) = Among b first end from n
LeastAmong b first end from None = (j : ℕ) → first ≤ j → j < end → from ≤ number_of b j → ⊥

abbrev pub layered : Option PlanFault → Option Fault
layered (Some f) = Some (Plan f)
layered None = None

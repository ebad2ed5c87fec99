-- A plan without the shut passages.
use Rattle.std.specs.Prelude.{ℕ, ◌/◌, ◌%◌, min, Bool, true, false, cond, not, List, length, None, Option, ◌==◌, slice_index}
use Rattle.fault.specs.declared.PlanFault.{PlanFault}
use Rattle.fault.specs.declared.PlanFault.TheVariants.{Sheet}
use Rattle.model.specs.Plans.{Passage, PlanMeaning, BoundsBy}
use Rattle.bits.specs.Bit.{has_bit}
use Rattle.plan.specs.First.{when}

abbrev pub sheet_fault : List ℕ → Option PlanFault
sheet_fault b = when (not (length b == 32)) (Sheet (min (length b) 32))

-- passage n is shut on the sheet: bit n mod 8 of byte n / 8
abbrev pub shut : List ℕ → ℕ → Bool
shut sheet n = has_bit (slice_index sheet (n / 8)) (n % 8)

abbrev pub open_passage : (ℕ → Option Passage) → (ℕ → Bool) → ℕ → Option Passage
open_passage passage gone n = cond (gone n) None (passage n)

pub open_within : (z n : ℕ) (t : Bool) (p : Option Passage) → BoundsBy z n p → BoundsBy z n (cond t None p)
open_within z n true p h = tt
open_within z n false p h = h

abbrev pub without : PlanMeaning → (ℕ → Bool) → PlanMeaning
without m gone = record { zones = m.zones; passage = open_passage m.passage gone; some_zone = m.some_zone; few_zones = m.few_zones; bounded = λ n. open_within m.zones n (gone n) (m.passage n) (m.bounded n) }

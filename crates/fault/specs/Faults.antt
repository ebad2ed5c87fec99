-- Every fault with its number, its layer and its place.
use Rattle.std.specs.Prelude.{ℕ}
use Rattle.fault.specs.declared.PlanFault.{PlanFault}
use Rattle.fault.specs.declared.PlanFault.TheVariants.{Short, Zones, Passages, Length, Entry, Repeated, Destination, Kind, Cells, Sheet}
use Rattle.fault.specs.declared.PatternFault.{PatternFault}
use Rattle.fault.specs.declared.PatternFault.TheVariants.{Long, Byte, Unknown, Misplaced, Names, Nested}
use Rattle.fault.specs.declared.EnquiryFault.{EnquiryFault}
use Rattle.fault.specs.declared.EnquiryFault.TheVariants.{Start, Target, Buffer, Malformed, NotAnswer, Unposed}
use Rattle.fault.specs.declared.Fault.{Fault}
use Rattle.fault.specs.declared.Fault.TheVariants.{Plan, Pattern, Enquiry}

abbrev pub plan_number : PlanFault → ℕ
plan_number (Short at) = 10
plan_number (Zones at) = 11
plan_number (Passages at) = 12
plan_number (Length at) = 13
plan_number (Entry at) = 14
plan_number (Repeated at) = 15
plan_number (Destination at) = 16
plan_number (Kind at) = 17
plan_number (Cells at) = 20
plan_number (Sheet at) = 21

abbrev pub plan_place : PlanFault → ℕ
plan_place (Short at) = at
plan_place (Zones at) = at
plan_place (Passages at) = at
plan_place (Length at) = at
plan_place (Entry at) = at
plan_place (Repeated at) = at
plan_place (Destination at) = at
plan_place (Kind at) = at
plan_place (Cells at) = at
plan_place (Sheet at) = at

abbrev pub pattern_number : PatternFault → ℕ
pattern_number (Long at) = 30
pattern_number (Byte at) = 31
pattern_number (Unknown at) = 32
pattern_number (Misplaced at) = 33
pattern_number (Names at) = 34
pattern_number (Nested at) = 35

abbrev pub pattern_place : PatternFault → ℕ
pattern_place (Long at) = at
pattern_place (Byte at) = at
pattern_place (Unknown at) = at
pattern_place (Misplaced at) = at
pattern_place (Names at) = at
pattern_place (Nested at) = at

abbrev pub enquiry_number : EnquiryFault → ℕ
enquiry_number (Start at) = 40
enquiry_number (Target at) = 41
enquiry_number (Buffer at) = 42
enquiry_number (Malformed at) = 43
enquiry_number (NotAnswer at) = 44
enquiry_number (Unposed at) = 45

abbrev pub enquiry_place : EnquiryFault → ℕ
enquiry_place (Start at) = at
enquiry_place (Target at) = at
enquiry_place (Buffer at) = at
enquiry_place (Malformed at) = at
enquiry_place (NotAnswer at) = at
enquiry_place (Unposed at) = at

abbrev pub number_of : Fault → ℕ
number_of (Plan f) = plan_number f
number_of (Pattern f) = pattern_number f
number_of (Enquiry f) = enquiry_number f

abbrev pub layer_of : Fault → ℕ
layer_of (Plan f) = 1
layer_of (Pattern f) = 2
layer_of (Enquiry f) = 3

abbrev pub place_of : Fault → ℕ
place_of (Plan f) = plan_place f
place_of (Pattern f) = pattern_place f
place_of (Enquiry f) = enquiry_place f

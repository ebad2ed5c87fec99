-- A run of calls with each fault, in its place and in its order.
use Rattle.std.specs.Prelude.{ℕ, true, false, List, [], ◌∷◌, ◌++◌, drop, replicate, Some, None, Ok, Err}
use Rattle.fault.specs.declared.Fault.TheVariants.{Enquiry}
use Rattle.fault.specs.declared.EnquiryFault.TheVariants.{Start, Target, Buffer, Malformed, NotAnswer, Unposed}
use Rattle.model.specs.declared.Choice.TheVariants.{All, Shortest}
use Rattle.model.specs.Rules.{trail}
use Rattle.model.specs.Questions.{EnquiryMeaning, Question}
use Rattle.model.specs.Runs.{Event, pose, next, again, check, resume, Happens, Full}
use Rattle.model.specs.Examples.{floor_e, badge_free_pin}

-- On floor E: a badge door under A, perhaps a free passage, and a pin door under B, by trails.
abbrev pub enquiry_e : EnquiryMeaning
enquiry_e = record { plan = floor_e; pattern = badge_free_pin; rule = trail }

-- A buffer of n words.
abbrev pub buffer : ℕ → List ℕ
buffer n = replicate n 9

-- The record of the first of the three answers from 0 to 3.
abbrev pub first_record : List ℕ
first_record = 2 ∷ 0 ∷ 0 ∷ 1 ∷ 1 ∷ 2 ∷ 3 ∷ 2 ∷ []

-- That of the second.
abbrev pub second_record : List ℕ
second_record = 3 ∷ 0 ∷ 0 ∷ 1 ∷ 1 ∷ 4 ∷ 2 ∷ 0 ∷ 3 ∷ 3 ∷ 2 ∷ []

-- That of the third.
abbrev pub third_record : List ℕ
third_record = 2 ∷ 0 ∷ 1 ∷ 2 ∷ 1 ∷ 3 ∷ 3 ∷ 2 ∷ []

-- Before a question is posed every call but pose is refused, whatever else is wrong with it.
abbrev pub too_early : List Event
too_early = next (buffer 769) (Err (Enquiry (Unposed 0))) (buffer 769) ∷ again (Err (Enquiry (Unposed 0))) ∷ check [] (Err (Enquiry (Unposed 0))) ∷ resume [] (Err (Enquiry (Unposed 0))) ∷ []

-- A start or a target that is no zone; the start is looked at first.
abbrev pub no_zones : List Event
no_zones = pose 4 9 All (Err (Enquiry (Start 4))) ∷ pose 3 4 All (Err (Enquiry (Target 4))) ∷ []

-- From 1 there is no answer.
abbrev pub no_answers : List Event
no_answers = pose 1 3 All (Ok tt) ∷ check (0 ∷ 0 ∷ []) (Ok false) ∷ resume (0 ∷ 0 ∷ []) (Err (Enquiry (NotAnswer 0))) ∷ next (buffer 770) (Ok None) (buffer 770) ∷ []

-- Words that are no record: too few, too many steps, too few for the steps, a mark over 8.
abbrev pub malformed : List Event
malformed = check (0 ∷ []) (Err (Enquiry (Malformed 1))) ∷ check (257 ∷ 0 ∷ []) (Err (Enquiry (Malformed 0))) ∷ resume (256 ∷ 0 ∷ []) (Err (Enquiry (Malformed 2))) ∷ check (1 ∷ 0 ∷ 7 ∷ 0 ∷ []) (Err (Enquiry (Malformed 4))) ∷ resume (2 ∷ 0 ∷ 0 ∷ 1 ∷ 8 ∷ 2 ∷ 3 ∷ 9 ∷ []) (Err (Enquiry (Malformed 7))) ∷ check (1 ∷ 0 ∷ 0 ∷ 1 ∷ 8 ∷ []) (Ok false) ∷ []

-- Deliveries from the front and from behind a resumed record; words behind a record do not count.
abbrev pub deliveries : List Event
deliveries = next (buffer 769) (Err (Enquiry (Buffer 769))) (buffer 769) ∷ next (buffer 770) (Ok (Some 8)) (first_record ++ drop 8 (buffer 770)) ∷ check (third_record ++ (5 ∷ [])) (Ok true) ∷ next (buffer 771) (Ok (Some 11)) (second_record ++ drop 11 (buffer 771)) ∷ again (Ok tt) ∷ resume (second_record ++ (5 ∷ [])) (Ok tt) ∷ next (buffer 770) (Ok (Some 8)) (third_record ++ drop 8 (buffer 770)) ∷ next (buffer 770) (Ok None) (buffer 770) ∷ []

-- A full listing after again, with a check and refused calls between.
abbrev pub listing_e : List Event
listing_e = again (Ok tt) ∷ next (buffer 770) (Ok (Some 8)) (first_record ++ drop 8 (buffer 770)) ∷ check first_record (Ok true) ∷ next (buffer 770) (Ok (Some 11)) (second_record ++ drop 11 (buffer 770)) ∷ pose 0 4 Shortest (Err (Enquiry (Target 4))) ∷ next [] (Err (Enquiry (Buffer 0))) [] ∷ next (buffer 770) (Ok (Some 8)) (third_record ++ drop 8 (buffer 770)) ∷ next (buffer 770) (Ok None) (buffer 770) ∷ []

-- All of these in turn, with a pose from 0 to 3 before the last three.
abbrev pub worked_calls : List Event
worked_calls = too_early ++ (no_zones ++ (no_answers ++ (pose 0 3 All (Ok tt) ∷ (malformed ++ (deliveries ++ listing_e)))))

-- A question for all answers.
abbrev pub all_between : ℕ → ℕ → Question
all_between v t = record { start = v; target = t; choice = All }

-- They are a run; the question from 1 to 3 has its full listing in it, of no record, and the question from 0 to 3 its
-- full listing of three.
pub record CallsComeOut : Type 0 where
  pub run : Happens enquiry_e worked_calls
  pub none_listed : Full worked_calls (all_between 1 3) []
  pub three_listed : Full worked_calls (all_between 0 3) (first_record ∷ second_record ∷ third_record ∷ [])

-- Where an enquiry stands, and what each of its five calls does.
use Rattle.std.specs.Prelude.{◌≡◌, ℕ, ◌+◌, ◌*◌, ◌<◌, ◌≤◌, Bool, true, false, ◌⊎◌, List, ◌++◌, length, drop, Some, None, Ok, Err, Option, Result, slice_index}
use Rattle.fault.specs.declared.Fault.{Fault}
use Rattle.fault.specs.declared.Fault.TheVariants.{Enquiry}
use Rattle.fault.specs.declared.EnquiryFault.TheVariants.{Start, Target, Buffer, Malformed, NotAnswer, Unposed}
use Rattle.model.specs.declared.Choice.{Choice}
use Rattle.model.specs.Records.{Answer, rec_words, Before}
use Rattle.model.specs.Questions.{EnquiryMeaning, Question, IsAnswer}

-- Where an enquiry stands in its listing: before the first answer, or behind one.
pub data Standing : Type 0 where
  at_front : Standing
  behind : Answer → Standing

-- The state of an enquiry: no question yet, or a question and a standing.
pub data State : Type 0 where
  unposed : State
  posed : Question → Standing → State

-- The record of the answer a stands at the front of the words; what stands behind it does not count.
abbrev pub Holds : List ℕ → Answer → Type 0
Holds ws a = (rest : List ℕ) × (ws ≡ rec_words a ++ rest)

-- The words are no record, and where that shows: the first of the four tests that fails.
pub data MalformedAt (ws : List ℕ) : ℕ → Type 0 where
  -- there are fewer than two words
  under_two : length ws < 2 → MalformedAt ws (length ws)
  -- the first word, the number of steps, is over 256
  over_256 : 2 ≤ length ws → 256 < slice_index ws 0 → MalformedAt ws 0
  -- there are fewer words than so many steps take
  too_few : 2 ≤ length ws → slice_index ws 0 ≤ 256 → length ws < 2 + 3 * slice_index ws 0 → MalformedAt ws (length ws)
  -- the mark of step i is over 8, and no mark before it is
  mark_over_8 : (i : ℕ) → 2 ≤ length ws → slice_index ws 0 ≤ 256 → 2 + 3 * slice_index ws 0 ≤ length ws → i < slice_index ws 0 → 8 < slice_index ws (4 + 3 * i) → ((j : ℕ) → j < i → slice_index ws (4 + 3 * j) ≤ 8) → MalformedAt ws (4 + 3 * i)

-- The words begin with a well formed record: no test fails.
abbrev pub WellFormed : List ℕ → Type 0
WellFormed ws = (p : ℕ) → MalformedAt ws p → ⊥

-- The answer comes after the standing.
abbrev pub After : Standing → Answer → Type 0
After at_front a = Unit {0}
After (behind b) a = Before b a

-- Of the answers with a property P, this is the first.
abbrev pub First : (Answer → Type 0) → Answer → Type 0
First P a = P a × ((b : Answer) → P b → (b ≡ a) ⊎ Before a b)

-- The answers of a question that are left after the standing.
abbrev pub Left : EnquiryMeaning → Question → Standing → Answer → Type 0
Left n q st a = IsAnswer n q a × After st a

-- The five calls on an enquiry with the meaning n. Each relates the state before, what is handed in, the reply (and the
-- buffer afterwards) and the state afterwards; a refusal leaves state and buffer as they were.
module _ (n : EnquiryMeaning) where
  -- pose: both ends are zones of the plan, and the enquiry stands before the first answer; the start is looked at first.
  pub data Pose (s : State) (start target : ℕ) (choice : Choice) : Result (Unit {0}) Fault → State → Type 0 where
    no_start : n.plan.zones ≤ start → Pose s start target choice (Err (Enquiry (Start start))) s
    no_target : start < n.plan.zones → n.plan.zones ≤ target → Pose s start target choice (Err (Enquiry (Target target))) s
    poses : start < n.plan.zones → target < n.plan.zones → Pose s start target choice (Ok tt) (posed (record { start = start; target = target; choice = choice }) at_front)

  -- next: it writes the record of the first answer left to the front of the buffer, gives its count of words, and stands
  -- behind that answer; or it says none left, and writes nothing.
  pub data Next : State → List ℕ → Result (Option ℕ) Fault → List ℕ → State → Type 0 where
    next_unposed : {buf : List ℕ} → Next unposed buf (Err (Enquiry (Unposed 0))) buf unposed
    no_room : {q : Question} {st : Standing} {buf : List ℕ} → length buf < 770 → Next (posed q st) buf (Err (Enquiry (Buffer (length buf)))) buf (posed q st)
    none_left : {q : Question} {st : Standing} {buf : List ℕ} → 770 ≤ length buf → ((a : Answer) → Left n q st a → ⊥) → Next (posed q st) buf (Ok None) buf (posed q st)
    delivers : {q : Question} {st : Standing} {buf : List ℕ} (a : Answer) → 770 ≤ length buf → First (Left n q st) a → Next (posed q st) buf (Ok (Some (length (rec_words a)))) (rec_words a ++ drop (length (rec_words a)) buf) (posed q (behind a))

  -- again: the enquiry stands before the first answer.
  pub data Again : State → Result (Unit {0}) Fault → State → Type 0 where
    again_unposed : Again unposed (Err (Enquiry (Unposed 0))) unposed
    goes_back : {q : Question} {st : Standing} → Again (posed q st) (Ok tt) (posed q at_front)

  -- check: whether the words hold the record of an answer; nothing changes.
  pub data Check : State → List ℕ → Result Bool Fault → State → Type 0 where
    check_unposed : {ws : List ℕ} → Check unposed ws (Err (Enquiry (Unposed 0))) unposed
    check_malformed : {q : Question} {st : Standing} {ws : List ℕ} {p : ℕ} → MalformedAt ws p → Check (posed q st) ws (Err (Enquiry (Malformed p))) (posed q st)
    says_yes : {q : Question} {st : Standing} {ws : List ℕ} (a : Answer) → WellFormed ws → Holds ws a → IsAnswer n q a → Check (posed q st) ws (Ok true) (posed q st)
    says_no : {q : Question} {st : Standing} {ws : List ℕ} → WellFormed ws → ((a : Answer) → Holds ws a → IsAnswer n q a → ⊥) → Check (posed q st) ws (Ok false) (posed q st)

  -- resume: the enquiry stands behind the answer whose record the words hold.
  pub data Resume : State → List ℕ → Result (Unit {0}) Fault → State → Type 0 where
    resume_unposed : {ws : List ℕ} → Resume unposed ws (Err (Enquiry (Unposed 0))) unposed
    resume_malformed : {q : Question} {st : Standing} {ws : List ℕ} {p : ℕ} → MalformedAt ws p → Resume (posed q st) ws (Err (Enquiry (Malformed p))) (posed q st)
    no_answer : {q : Question} {st : Standing} {ws : List ℕ} → WellFormed ws → ((a : Answer) → Holds ws a → IsAnswer n q a → ⊥) → Resume (posed q st) ws (Err (Enquiry (NotAnswer 0))) (posed q st)
    resumes : {q : Question} {st : Standing} {ws : List ℕ} (a : Answer) → WellFormed ws → Holds ws a → IsAnswer n q a → Resume (posed q st) ws (Ok tt) (posed q (behind a))

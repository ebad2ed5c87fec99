-- The calls and replies of a replay as events.
use Rattle.std.specs.Prelude.{◌≡◌, ℕ, Bool, ◌↔◌, List, ◌∷◌, ◌++◌, map, Ok, vec_items, Option, Result}
use Rattle.fault.specs.declared.Fault.{Fault}
use Rattle.model.specs.Plans.{PlanMeaning}
use Rattle.model.specs.Rules.{RuleMeaning}
use Rattle.model.specs.Patterns.{Tree}
use Rattle.model.specs.Questions.{EnquiryMeaning, Question, Lawful, SameAnswers}
use Rattle.model.specs.Runs.{Event, Does, pose, next, again, check, resume}
use Rattle.model.specs.Replies.{handed, pose_call, next_call, again_call, check_call, resume_call}
use Rattle.model.specs.Replies as k
use Rattle.model.specs.Runs.{Happens, NextSays, Full}
use Rattle.automaton.specs.Tables.{Recognises}
use Rattle.automaton.specs.declared.Automaton.{Automaton}
use Rattle.pattern.specs.Texts.{Gives, FaultOf}
use Rattle.search.specs.declared.cursor.Cursor.{Cursor}
use Rattle.enquiry.specs.Promises.{asked, state_of, Kept}
use Rattle.enquiry.specs.declared.calls.Enquiry.{Enquiry}
use Rattle.listing.specs.declared.call.Call.{Call}
use Rattle.listing.specs.declared.call.Call.TheVariants.{Pose, Next, Again, Check, Resume}
use Rattle.listing.specs.declared.call.Trouble.{Trouble}
use Rattle.listing.specs.declared.call.Trouble.TheVariants.{Memory, Refused}
use Rattle.listing.specs.declared.call.Reply.{Reply}
use Rattle.listing.specs.declared.call.Reply.TheVariants.{Pose as Posed, Next as Nexted, Again as Agained, Check as Checked, Resume as Resumed}

-- What an event replied; for next, with the buffer afterwards.
pub data Told : Type 0 where
  pose_told : Result (Unit {0}) Fault → Told
  next_told : Result (Option ℕ) Fault → List ℕ → Told
  again_told : Result (Unit {0}) Fault → Told
  check_told : Result Bool Fault → Told
  resume_told : Result (Unit {0}) Fault → Told

-- The reply of an event, without its call.
abbrev pub replied : Event → Told
replied (pose v t c o) = pose_told o
replied (next b o b') = next_told o b'
replied (again o) = again_told o
replied (check ws o) = check_told o
replied (resume ws o) = resume_told o

-- A call of the code, in the words of the model.
abbrev pub call_of : Call → k.Call
call_of (Pose v t c) = pose_call v t (c)
call_of (Next b) = next_call (vec_items b)
call_of Again = again_call
call_of (Check ws) = check_call (vec_items ws)
call_of (Resume ws) = resume_call (vec_items ws)

-- A reply of the code, in the words of the model.
abbrev pub reply_of : Reply → Told
reply_of (Posed o) = pose_told o
reply_of (Nexted o b) = next_told o (vec_items b)
reply_of (Agained o) = again_told o
reply_of (Checked o) = check_told o
reply_of (Resumed o) = resume_told o

-- the call and its reply are an event, from the cursor to the cursor after it
pub record Performs (n : EnquiryMeaning) (a : Automaton) (d : Option Cursor) (c : k.Call) (r : Told) (e : Option Cursor) : Type 0 where
  pub event : Event
  pub called : handed event ≡ c
  pub answered : replied event ≡ r
  pub does : Does n (state_of d) event (state_of e)
  pub kept : Kept n a e

-- The same for every tree that the automaton recognises.
abbrev pub Performed : PlanMeaning → RuleMeaning → Automaton → Option Cursor → Call → Reply → Option Cursor → Type 0
Performed pl ru a d c r e = (t : Tree) → Recognises a t → Kept (asked pl ru t) a d → Performs (asked pl ru t) a d (call_of c) (reply_of r) e

-- The same of an enquiry before and after the call, by what plans and rules mean.
abbrev pub PerformedBy : {P R : Type 0} → (P → PlanMeaning) → (R → RuleMeaning) → Enquiry P R → Call → Reply → Enquiry P R → Type 0
PerformedBy plan_of rule_of e c r e' = Performed (plan_of e.search.plan) (rule_of e.search.rule) e.search.automaton e.cursor c r e'.cursor

-- The calls with their replies, in turn, are a run: they happen to a new enquiry.
pub record Replayed (n : EnquiryMeaning) (cs : List k.Call) (rs : List Told) : Type 0 where
  pub events : List Event
  pub called : map handed events ≡ cs
  pub answered : map replied events ≡ rs
  pub happens : Happens n events
  -- every next among them that is not refused says none left exactly when no answer is to come, and otherwise delivers
  -- the first one to come
  pub every_next : (before later : List Event) (buffer : List ℕ) (r : Option ℕ) (afterwards : List ℕ) → events ≡ before ++ (next buffer (Ok r) afterwards ∷ later) → NextSays n before buffer r afterwards
  -- a full listing among them equals one of any other run exactly when the two questions have the same answers
  pub every_listing : (o : EnquiryMeaning) → Lawful o → (fs : List Event) (q u : Question) (ls ms : List (List ℕ)) → Happens o fs → Full events q ls → Full fs u ms → (ls ≡ ms) ↔ SameAnswers n q o u

-- The same for the one tree of a pattern text.
pub record ReplayedText (pl : PlanMeaning) (ru : RuleMeaning) (text : List ℕ) (cs : List k.Call) (rs : List Told) : Type 0 where
  pub tree : Tree
  pub gives : Gives text tree
  pub replayed : Replayed (asked pl ru tree) cs rs

-- Why there are no replies: no memory, or the first fault of the text.
abbrev pub Troubled : List ℕ → Trouble → Type 0
Troubled text Memory = Unit {0}
Troubled text (Refused f) = FaultOf text f

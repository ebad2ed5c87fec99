-- What an enquiry keeps between its calls, where it stands, and what each call promises.
use Rattle.std.specs.Prelude.{◌≡◌, ℕ, ◌<◌, ◌≤◌, Bool, true, false, Some, None, Ok, Err, Option, Result}
use Rattle.fault.specs.declared.Fault.{Fault}
use Rattle.model.specs.declared.Choice.{Choice}
use Rattle.model.specs.declared.Choice.TheVariants.{All, Shortest}
use Rattle.model.specs.Plans.{PlanMeaning}
use Rattle.model.specs.Routes.{len}
use Rattle.model.specs.Rules.{RuleMeaning}
use Rattle.model.specs.Patterns.{Tree}
use Rattle.model.specs.Records.{Answer}
use Rattle.model.specs.Questions.{EnquiryMeaning, Question, Candidate}
use Rattle.model.specs.Calls.{State, unposed, posed, at_front, behind}
use Rattle.model.specs.Calls as calls
use Rattle.automaton.specs.Tables.{Recognises}
use Rattle.automaton.specs.declared.Automaton.{Automaton}
use Rattle.route.specs.Tracks.{Track}
use Rattle.route.specs.Limits.{limit}
use Rattle.search.specs.declared.cursor.Cursor.{Cursor}
use Rattle.search.specs.declared.progress.Progress.{Progress}
use Rattle.search.specs.Trails.{trail, begun}
use Rattle.enquiry.specs.declared.calls.Enquiry.{Enquiry}
use Rattle.search.specs.Hunts.{space_of}
use Rattle.search.specs.Listings.{Standing, codes_of}
use Rattle.search.specs.Spaces.{Earlier}
use Rattle.bridge.specs.Lines.{told}

-- The enquiry of a plan, a rule and a tree.
abbrev pub asked : PlanMeaning → RuleMeaning → Tree → EnquiryMeaning
asked pl ru t = record { plan = pl; pattern = t; rule = ru }

-- The question that a cursor holds.
abbrev pub question_of : Cursor → Question
question_of d = record { start = (trail d.progress).start; target = d.target; choice = d.choice }

-- Where a listing stands: before the first answer, or behind the answer that its track writes down.
abbrev pub standing_by : Bool → Track → calls.Standing
standing_by true s = behind (told s)
standing_by false s = at_front

abbrev pub standing_of : Progress → calls.Standing
standing_of p = standing_by (begun p) (trail p)

-- The state of an enquiry, by its cursor, if it has a question.
abbrev pub state_of : Option Cursor → State
state_of (Some d) = posed (question_of d) (standing_of d.progress)
state_of None = unposed

-- The greatest length that the search goes to: under `all` the limit of the rule; under `shortest` no candidate is
-- shorter, and where there is a candidate, there is one that is no longer.
abbrev pub Capped : EnquiryMeaning → Question → Choice → ℕ → Type 0
Capped n q All most = most ≡ limit n.rule
Capped n q Shortest most = ((b : Answer) → Candidate n q b → most ≤ len b.route) × ((b : Answer) → Candidate n q b → (e : Answer) × Candidate n q e × (len e.route ≤ most))

-- The same for a question under `shortest`.
abbrev pub Least : EnquiryMeaning → ℕ → ℕ → ℕ → Type 0
Least n start target most = Capped n (record { start = start; target = target; choice = Shortest }) Shortest most

-- What a cursor keeps: its start is a zone, its greatest length is right, it stands where the search can have come to,
-- and once begun that is behind an answer.
pub record KeptPosed (n : EnquiryMeaning) (a : Automaton) (d : Cursor) : Type 0 where
  pub start : (trail d.progress).start < n.plan.zones
  pub longest : Capped n (question_of d) d.choice d.most
  pub stands : Standing (space_of n.plan n.rule a d.target d.most) (trail d.progress)
  pub answer : begun d.progress ≡ true → (space_of n.plan n.rule a d.target d.most).final (trail d.progress) ≡ true

-- What an enquiry keeps. A new one does, since it has no question, and every call keeps it.
abbrev pub Kept : EnquiryMeaning → Automaton → Option Cursor → Type 0
Kept n a (Some d) = KeptPosed n a d
Kept n a None = Unit {0}

-- What a call promises, of every tree that the automaton recognises: from an enquiry that keeps what it should, it does
-- what the model says of the call, and the enquiry keeps it afterwards.
abbrev pub Promise : PlanMeaning → RuleMeaning → Automaton → Option Cursor → Option Cursor → (EnquiryMeaning → State → State → Type 0) → Type 0
Promise pl ru a o o' Does = (t : Tree) → Recognises a t → Kept (asked pl ru t) a o → Does (asked pl ru t) (state_of o) (state_of o') × Kept (asked pl ru t) a o'

-- The same of an enquiry before and after the call, by what plans and rules mean.
abbrev pub Promised : {P R : Type 0} → (P → PlanMeaning) → (R → RuleMeaning) → Enquiry P R → Enquiry P R → (EnquiryMeaning → State → State → Type 0) → Type 0
Promised plan_of rule_of e e' Does = Promise (plan_of e.search.plan) (rule_of e.search.rule) e.search.automaton e.cursor e'.cursor Does

-- The fact holds of a refused call.
abbrev pub IfRefused : {X : Type 0} → Result X Fault → Type 0 → Type 0
IfRefused (Ok x) P = Unit {0}
IfRefused (Err f) P = P

-- The fact holds of an accepted call.
abbrev pub IfAccepted : {X : Type 0} → Result X Fault → Type 0 → Type 0
IfAccepted (Ok x) P = P
IfAccepted (Err f) P = Unit {0}

-- The enquiry stands before the first answer of its question.
abbrev pub IsAtFront : Option Cursor → Type 0
IsAtFront (Some d) = begun d.progress ≡ false
IsAtFront None = ⊥

-- A delivery leads on from where the search stood, whatever the pattern: so a listing comes to an end.
abbrev pub Onward : PlanMeaning → RuleMeaning → Automaton → Option Cursor → Option Cursor → Type 0
Onward pl ru a (Some d) (Some e) = Standing (space_of pl ru a d.target d.most) (trail d.progress) → Standing (space_of pl ru a e.target e.most) (trail e.progress) × (begun e.progress ≡ true) × (begun d.progress ≡ true → Earlier (codes_of (trail d.progress)) (codes_of (trail e.progress)))
Onward pl ru a None e = ⊥
Onward pl ru a (Some d) None = ⊥

abbrev pub Forward : PlanMeaning → RuleMeaning → Automaton → Option Cursor → Result (Option ℕ) Fault → Option Cursor → Type 0
Forward pl ru a o (Ok (Some k)) o' = Onward pl ru a o o'
Forward pl ru a o (Ok None) o' = Unit {0}
Forward pl ru a o (Err f) o' = Unit {0}

abbrev pub LedForward : {P R : Type 0} → (P → PlanMeaning) → (R → RuleMeaning) → Enquiry P R → Result (Option ℕ) Fault → Enquiry P R → Type 0
LedForward plan_of rule_of e r e' = Forward (plan_of e.search.plan) (rule_of e.search.rule) e.search.automaton e.cursor r e'.cursor

-- Questions put in full, and what comparing two of them answers.
use Rattle.std.specs.Prelude.{◌≡◌, ℕ, ◌<◌, ◌≤◌, Bool, true, ◌↔◌, List, Option}
use Rattle.fault.specs.declared.Fault.{Fault}
use Rattle.fault.specs.declared.Fault.TheVariants.{Enquiry}
use Rattle.fault.specs.declared.EnquiryFault.TheVariants.{Start, Target}
use Rattle.model.specs.declared.Choice.{Choice}
use Rattle.model.specs.Plans.{PlanMeaning}
use Rattle.model.specs.Rules.{RuleMeaning}
use Rattle.model.specs.Patterns.{Tree}
use Rattle.model.specs.Questions.{Question, SameAnswers}
use Rattle.pattern.specs.Texts.{Gives, FaultOf}
use Rattle.model.specs.Calls.{posed, at_front}
use Rattle.automaton.specs.Tables.{Recognises}
use Rattle.automaton.specs.declared.Automaton.{Automaton}
use Rattle.search.specs.declared.cursor.Cursor.{Cursor}
use Rattle.enquiry.specs.Promises.{asked, state_of, Kept}

-- A question put in full: a plan and a rule by their meanings, a pattern text, ends and choice.
pub record FullQuestion : Type 0 where
  pub plan : PlanMeaning
  pub rule : RuleMeaning
  pub text : List ℕ
  pub question : Question

-- The same from its parts.
abbrev pub full : PlanMeaning → RuleMeaning → List ℕ → ℕ → ℕ → Choice → FullQuestion
full pl ru text start target choice = record { plan = pl; rule = ru; text = text; question = record { start = start; target = target; choice = choice } }

-- Nothing is wrong with the question: the text gives this tree, and both ends are zones of the plan.
pub record Sound (f : FullQuestion) (t : Tree) : Type 0 where
  pub gives : Gives f.text t
  pub start : f.question.start < f.plan.zones
  pub target : f.question.target < f.plan.zones

-- Why the question is refused: the first fault of its text, or, where the text is a pattern, a start and then a target
-- that is no zone.
pub data RefusedFor (f : FullQuestion) : Fault → Type 0 where
  bad_text : {x : Fault} → FaultOf f.text x → RefusedFor f x
  no_start : (t : Tree) → Gives f.text t → f.plan.zones ≤ f.question.start → RefusedFor f (Enquiry (Start f.question.start))
  no_target : (t : Tree) → Gives f.text t → f.question.start < f.plan.zones → f.plan.zones ≤ f.question.target → RefusedFor f (Enquiry (Target f.question.target))

-- The two questions are sound, and the answer is yes exactly when they have the same answers.
pub record Compared (f g : FullQuestion) (b : Bool) : Type 0 where
  pub left : Tree
  pub right : Tree
  pub left_sound : Sound f left
  pub right_sound : Sound g right
  pub equal_exactly : (b ≡ true) ↔ SameAnswers (asked f.plan f.rule left) f.question (asked g.plan g.rule right) g.question

-- Why two questions are not compared: the first is refused, or the first is sound and the second is refused.
pub data NotCompared (f g : FullQuestion) (x : Fault) : Type 0 where
  first_refused : RefusedFor f x → NotCompared f g x
  second_refused : (t : Tree) → Sound f t → RefusedFor g x → NotCompared f g x

-- An enquiry that holds the question and stands before its first answer.
pub record Opened (f : FullQuestion) (a : Automaton) (d : Option Cursor) : Type 0 where
  pub tree : Tree
  pub sound : Sound f tree
  pub recognises : Recognises a tree
  pub kept : Kept (asked f.plan f.rule tree) a d
  pub stands : state_of d ≡ posed f.question at_front

-- Questions, and which answers they have.
use Rattle.std.specs.Prelude.{◌≡◌, ℕ, ◌≤◌, ◌↔◌}
use Rattle.model.specs.declared.Choice.{Choice}
use Rattle.model.specs.declared.Choice.TheVariants.{All, Shortest}
use Rattle.model.specs.Plans.{PlanMeaning}
use Rattle.model.specs.Routes.{len, end}
use Rattle.model.specs.Patterns.{Tree, Output}
use Rattle.model.specs.Rules.{RuleMeaning, Allowed, KeepsLaws}
use Rattle.model.specs.Records.{Answer}

-- What an enquiry holds: a plan, a pattern and a rule, by their meanings.
pub record EnquiryMeaning : Type 0 where
  pub plan : PlanMeaning
  pub pattern : Tree
  pub rule : RuleMeaning

-- Its rule keeps the laws.
abbrev pub Lawful : EnquiryMeaning → Type 0
Lawful n = KeepsLaws n.rule

-- A question: the ends, and whether all answers are wanted or the shortest.
pub record Question : Type 0 where
  pub start : ℕ
  pub target : ℕ
  pub choice : Choice

-- A candidate: an allowed output from start to target.
pub record Candidate (n : EnquiryMeaning) (q : Question) (a : Answer) : Type 0 where
  pub output : Output n.plan n.pattern a.route a.lists
  pub starts : a.route.start ≡ q.start
  pub ends : end a.route ≡ q.target
  pub allowed : Allowed n.rule a.route

-- Under `shortest` no other candidate has fewer passages.
abbrev pub Chosen : EnquiryMeaning → Question → Choice → Answer → Type 0
Chosen n q All a = Unit {0}
Chosen n q Shortest a = (b : Answer) → Candidate n q b → len a.route ≤ len b.route

-- The answers of a question.
abbrev pub IsAnswer : EnquiryMeaning → Question → Answer → Type 0
IsAnswer n q a = Candidate n q a × Chosen n q q.choice a

-- Two questions have the same answers.
abbrev pub SameAnswers : EnquiryMeaning → Question → EnquiryMeaning → Question → Type 0
SameAnswers n q m u = (a : Answer) → IsAnswer n q a ↔ IsAnswer m u a

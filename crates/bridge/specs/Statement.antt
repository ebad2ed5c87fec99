-- The answers of the search are the answers of the enquiry, and the words of a pattern are its outputs.
use Rattle.std.specs.Prelude.{◌≡◌, ℕ, ◌<◌, ◌≤◌, true, ◌↔◌, []}
use Rattle.model.specs.Plans.{PlanMeaning}
use Rattle.model.specs.Routes.{IsPath, len}
use Rattle.model.specs.Patterns.{Tree, Output}
use Rattle.model.specs.Rules.{Trail}
use Rattle.model.specs.Records.{Answer, Record, answer_of, record_of}
use Rattle.model.specs.Questions.{EnquiryMeaning, Question, Candidate, Lawful}
use Rattle.automaton.specs.Readings.{Reads}
use Rattle.automaton.specs.Tables.{Recognises}
use Rattle.automaton.specs.declared.Automaton.{Automaton}
use Rattle.route.specs.Tracks.{Track}
use Rattle.route.specs.Limits.{limit}
use Rattle.search.specs.Spaces.{Goal}
use Rattle.search.specs.Listings.{Standing, route_at}
use Rattle.search.specs.Hunts.{space_of}
use Rattle.bridge.specs.Lines.{told, line_codes, word_of}

-- The candidates of the question q, and what a search of at most `most` steps finds by the automaton a.
pub record Agree (n : EnquiryMeaning) (a : Automaton) (q : Question) (most : ℕ) : Type 0 where
  -- a track from the start that stands in the space and is final there writes down a candidate
  pub sound : (e : Track) → e.start ≡ q.start → Standing (space_of n.plan n.rule a q.target most) e → (space_of n.plan n.rule a q.target most).final e ≡ true → Candidate n q (told e)
  -- the lines of every candidate that is not too long are a goal of the space
  pub complete : (b : Answer) → Candidate n q b → len b.route ≤ most → Goal (space_of n.plan n.rule a q.target most) (route_at q.start []) (line_codes (record_of b).lines)
  -- and no candidate is longer than the rule's limit
  pub short : (b : Answer) → Candidate n q b → len b.route ≤ limit n.rule

-- For every lawful enquiry, every automaton that recognises its pattern, every question that starts in a zone of the
-- plan, and every greatest length.
abbrev pub AnswersAgree : Type 0
AnswersAgree = (n : EnquiryMeaning) → Lawful n → (a : Automaton) → Recognises a n.pattern → (q : Question) → q.start < n.plan.zones → (most : ℕ) → Agree n a q most

-- The answer b is written down by a record whose route is a path, and whose lines the pattern reads.
pub record ReadOff (pl : PlanMeaning) (t : Tree) (b : Answer) : Type 0 where
  pub written : Record
  pub writes : answer_of written ≡ b
  pub path : IsPath pl (answer_of written).route
  pub read : Reads t (word_of pl written.lines)

-- The outputs of the pattern t over a plan, and the words that it reads.
pub record Readings (pl : PlanMeaning) (t : Tree) : Type 0 where
  -- an answer is an output exactly when it is read off some record
  pub outputs : (b : Answer) → Output pl t b.route b.lists ↔ ReadOff pl t b
  -- where no passage repeats the record is the only one: its lines are read exactly when it writes down an output
  pub records : (k : Record) → IsPath pl (answer_of k).route → Trail (answer_of k).route → Reads t (word_of pl k.lines) ↔ Output pl t (answer_of k).route (answer_of k).lists

-- For every plan and every pattern.
abbrev pub ReadingsAgree : Type 0
ReadingsAgree = (pl : PlanMeaning) (t : Tree) → Readings pl t

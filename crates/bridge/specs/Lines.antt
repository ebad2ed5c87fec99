-- Which record a track writes down, and how a search and a pattern see the lines of a record.
use Rattle.std.specs.Prelude.{ℕ, List, [], ◌∷◌, Some, None, Option}
use Rattle.model.specs.Plans.{Passage, PlanMeaning}
use Rattle.model.specs.Records.{Line, Record, Answer, letter, mark_word, answer_of}
use Rattle.automaton.specs.Readings.{Pair, Word}
use Rattle.route.specs.Tracks.{Taken, Track}
use Rattle.search.specs.Spaces.{Code}

-- The line that a step writes down: its passage, the zone reached, and the letter of its mark.
abbrev pub told_line : Taken → Line
told_line x = record { number = x.passage; reached = x.zone; mark = letter x.mark }

-- The lines that the steps write down, oldest first where the steps stand newest first, and then the lines v.
abbrev pub told_lines : List Taken → List Line → List Line
told_lines [] v = v
told_lines (x ∷ xs) v = told_lines xs (told_line x ∷ v)

-- The record that a track writes down.
abbrev pub told_record : Track → Record
told_record s = record { start = s.start; lines = told_lines s.steps [] }

-- The answer that a track writes down.
abbrev pub told : Track → Answer
told s = answer_of (told_record s)

-- A line as a search compares it: its passage, and its mark as a number.
abbrev pub line_code : Line → Code
line_code x = record { passage = x.number; mark = mark_word x.mark }

-- Lines as a search compares them, in turn.
abbrev pub line_codes : List Line → List Code
line_codes [] = []
line_codes (x ∷ xs) = line_code x ∷ line_codes xs

-- The kind of a passage, or 0 where there is none.
abbrev pub kind_by : Option Passage → ℕ
kind_by (Some p) = p.kind
kind_by None = 0

-- The kind of the passage that the number n names in the plan.
abbrev pub kind_at : PlanMeaning → ℕ → ℕ
kind_at pl n = kind_by (pl.passage n)

-- A line as a pattern sees it: the kind of its passage, and its mark as a number.
abbrev pub pair_of : PlanMeaning → Line → Pair
pair_of pl x = (kind_at pl x.number, mark_word x.mark)

-- Lines as a pattern sees them, in turn.
abbrev pub word_of : PlanMeaning → List Line → Word
word_of pl [] = []
word_of pl (x ∷ xs) = pair_of pl x ∷ word_of pl xs

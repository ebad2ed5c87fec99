-- Answers, their records, and the order of records.
use Rattle.std.specs.Prelude.{◌≡◌, ℕ, ◌<◌, Bool, false, cond, ◌⊎◌, List, [], ◌∷◌, map, length, Some, None, Option, ◌==◌}
use Rattle.model.specs.Routes.{Step, Route}
use Rattle.model.specs.Patterns.{Letter, A, B, C, D, E, F, G, H, letter_word, same, Lists}
use Rattle.model.specs.Rules.{mem}

-- An answer: a route with its eight lists.
pub record Answer : Type 0 where
  pub route : Route
  pub lists : Lists

-- One step of a record: the passage, the zone reached, and the letter whose list the passage is on, if any.
pub record Line : Type 0 where
  pub number : ℕ
  pub reached : ℕ
  pub mark : Option Letter

-- A record: the start zone, and a line for each step.
pub record Record : Type 0 where
  pub start : ℕ
  pub lines : List Line

-- A mark as a word: 0 is no letter, 1 to 8 are A to H.
abbrev pub mark_word : Option Letter → ℕ
mark_word None = 0
mark_word (Some z) = letter_word z

-- The mark of a word below 9.
abbrev pub letter : ℕ → Option Letter
letter k = cond (k == 0) None (cond (k == 1) (Some A) (cond (k == 2) (Some B) (cond (k == 3) (Some C) (cond (k == 4) (Some D) (cond (k == 5) (Some E) (cond (k == 6) (Some F) (cond (k == 7) (Some G) (Some H))))))))

-- Three words for each line: number, zone reached, mark.
abbrev pub line_words : List Line → List ℕ
line_words [] = []
line_words (l ∷ ls) = l.number ∷ (l.reached ∷ (mark_word l.mark ∷ line_words ls))

-- The words of a record: how many lines, the start, then the lines.
abbrev pub words : Record → List ℕ
words k = length k.lines ∷ (k.start ∷ line_words k.lines)

-- Whether a mark is the letter z.
abbrev pub carries : Letter → Option Letter → Bool
carries z None = false
carries z (Some w) = same z w

-- The passages that are marked z, in turn.
abbrev pub marked : Letter → List Line → List ℕ
marked z [] = []
marked z (l ∷ ls) = cond (carries z l.mark) (l.number ∷ marked z ls) (marked z ls)

-- A line without its mark.
abbrev pub step_of : Line → Step
step_of l = record { number = l.number; reached = l.reached }

-- The answer that a record writes down.
abbrev pub answer_of : Record → Answer
answer_of k = record { route = record { start = k.start; steps = map step_of k.lines }; lists = λ z. marked z k.lines }

-- The letter on whose list the passage p is, if any.
abbrev pub mark_of : Lists → ℕ → Option Letter
mark_of m p = cond (mem p (m A)) (Some A) (cond (mem p (m B)) (Some B) (cond (mem p (m C)) (Some C) (cond (mem p (m D)) (Some D) (cond (mem p (m E)) (Some E) (cond (mem p (m F)) (Some F) (cond (mem p (m G)) (Some G) (cond (mem p (m H)) (Some H) None)))))))

-- The line of a step under the lists.
abbrev pub line_of : Lists → Step → Line
line_of m s = record { number = s.number; reached = s.reached; mark = mark_of m s.number }

-- The record of an answer.
abbrev pub record_of : Answer → Record
record_of a = record { start = a.route.start; lines = map (line_of a.lists) a.route.steps }

-- The words of an answer's record.
abbrev pub rec_words : Answer → List ℕ
rec_words a = words (record_of a)

-- One line comes before another: by passage number, then by mark.
abbrev pub Lower : Line → Line → Type 0
Lower x y = (x.number < y.number) ⊎ ((x.number ≡ y.number) × (mark_word x.mark < mark_word y.mark))

-- Two lines stand level: same number, same mark.
abbrev pub Level : Line → Line → Type 0
Level x y = (x.number ≡ y.number) × (mark_word x.mark ≡ mark_word y.mark)

-- The order of records, step by step; a record that runs out first comes first.
abbrev pub Earlier : List Line → List Line → Type 0
Earlier [] [] = ⊥
Earlier [] (y ∷ ys) = Unit {0}
Earlier (x ∷ xs) [] = ⊥
Earlier (x ∷ xs) (y ∷ ys) = Lower x y ⊎ (Level x y × Earlier xs ys)

-- Answers come in the order of their records.
abbrev pub Before : Answer → Answer → Type 0
Before a b = Earlier (record_of a).lines (record_of b).lines

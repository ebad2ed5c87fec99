-- Patterns, and the routes with lists that they give.
use Rattle.std.specs.Prelude.{◌≡◌, ℕ, ◌<◌, Bool, cond, List, [], ◌∷◌, ◌++◌, Some, None, Option, ◌==◌}
use Rattle.model.specs.declared.Label.{Label}
use Rattle.model.specs.declared.Label.TheVariants.{Kind, Any}
use Rattle.model.specs.Plans.{PlanMeaning}
use Rattle.model.specs.Routes.{Step, Route, Joined}

-- The letters under which a pattern collects passages.
pub data Letter : Type 0 where
  A B C D E F G H : Letter

-- The number of a letter, 1 to 8.
abbrev pub letter_word : Letter → ℕ
letter_word A = 1
letter_word B = 2
letter_word C = 3
letter_word D = 4
letter_word E = 5
letter_word F = 6
letter_word G = 7
letter_word H = 8

-- Whether two letters are the same.
abbrev pub same : Letter → Letter → Bool
same z w = letter_word z == letter_word w

-- Eight lists of passage numbers, one for each letter.
abbrev pub Lists : Type 0
Lists = Letter → List ℕ

-- All eight lists are empty.
abbrev pub no_lists : Lists
no_lists w = []

-- The passage p is on the list of the letter z, and nothing else is on any list.
abbrev pub only : Letter → ℕ → Lists
only z p w = cond (same w z) (p ∷ []) []

-- Two sets of lists, appended letter by letter.
abbrev pub appended : Lists → Lists → Lists
appended m n w = m w ++ n w

-- A passage of the kind j fits a label: a kind fits itself, and `any` fits every kind.
abbrev pub Fits : Label → ℕ → Type 0
Fits (Kind k) j = j ≡ k
Fits Any j = Unit {0}

-- A pattern: a kind or `any`, with or without a letter; `empty`; a sequence; one or the other; zero or more; one or
-- more; zero or one.
infixr 40 ◌then◌
infixr 30 ◌or◌
pub data Tree : Type 0 where
  name : Label → Option Letter → Tree
  empty : Tree
  ◌then◌ : Tree → Tree → Tree
  ◌or◌ : Tree → Tree → Tree
  star : Tree → Tree
  plus : Tree → Tree
  maybe : Tree → Tree

-- The outputs of a pattern over a plan: routes with their lists.
pub data Output (pl : PlanMeaning) : Tree → Route → Lists → Type 0 where
  -- a name gives each route of one passage that fits it, and collects nothing
  one : {l : Label} {v k : ℕ} {s : Step} → pl.passage s.number ≡ Some (record { origin = v; destination = s.reached; kind = k }) → Fits l k → Output pl (name l None) (record { start = v; steps = s ∷ [] }) no_lists
  -- with a letter, that passage is also on the letter's list
  one^ : {l : Label} {z : Letter} {v k : ℕ} {s : Step} → pl.passage s.number ≡ Some (record { origin = v; destination = s.reached; kind = k }) → Fits l k → Output pl (name l (Some z)) (record { start = v; steps = s ∷ [] }) (only z s.number)
  -- `empty` gives each route of no passage
  stay : {v : ℕ} → v < pl.zones → Output pl empty (record { start = v; steps = [] }) no_lists
  -- a sequence joins routes end to start, and appends their lists
  join : {x y : Tree} {r q t : Route} {m n : Lists} → Output pl x r m → Output pl y q n → Joined r q t → Output pl (x then y) t (appended m n)
  -- `|` gives the outputs of either side
  left : {x y : Tree} {r : Route} {m : Lists} → Output pl x r m → Output pl (x or y) r m
  right : {x y : Tree} {r : Route} {m : Lists} → Output pl y r m → Output pl (x or y) r m
  -- `*` joins zero or more outputs
  zero_times : {x : Tree} {v : ℕ} → v < pl.zones → Output pl (star x) (record { start = v; steps = [] }) no_lists
  once_more : {x : Tree} {r q t : Route} {m n : Lists} → Output pl x r m → Output pl (star x) q n → Joined r q t → Output pl (star x) t (appended m n)
  -- `+` joins one or more
  at_least_once : {x : Tree} {r q t : Route} {m n : Lists} → Output pl x r m → Output pl (star x) q n → Joined r q t → Output pl (plus x) t (appended m n)
  -- `?` gives a route of no passage, or an output
  without : {x : Tree} {v : ℕ} → v < pl.zones → Output pl (maybe x) (record { start = v; steps = [] }) no_lists
  with_it : {x : Tree} {r : Route} {m : Lists} → Output pl x r m → Output pl (maybe x) r m

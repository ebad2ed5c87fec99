-- Tracks: a route as a search keeps it, newest step first, with a mark and a mask at each step.
use Rattle.std.specs.Prelude.{ℕ, ◌-◌, List, [], ◌∷◌, ◌++◌, take}
use Rattle.model.specs.Routes.{Step, Route, len}

-- One step as it was taken: the passage, the zone reached, the mark, and the states after it as a mask.
pub record Taken : Type 0 where
  pub passage : ℕ
  pub zone : ℕ
  pub mark : ℕ
  pub mask : ℕ

-- A track: the start zone, and the steps taken, newest first.
pub record Track : Type 0 where
  pub start : ℕ
  pub steps : List Taken

-- The track with one more step.
abbrev pub extend : Track → Taken → Track
extend t x = record { start = t.start; steps = x ∷ t.steps }

-- All but the first of a list.
abbrev pub tail : List Taken → List Taken
tail [] = []
tail (x ∷ xs) = xs

-- The track without its newest step; a track of no step stays as it is.
abbrev pub popped : Track → Track
popped t = record { start = t.start; steps = tail t.steps }

-- The zone that the newest step reached, or z where there is no step.
abbrev pub last_zone : ℕ → List Taken → ℕ
last_zone z [] = z
last_zone z (x ∷ xs) = x.zone

-- The mask after the newest step, or k where there is no step.
abbrev pub last_mask : ℕ → List Taken → ℕ
last_mask k [] = k
last_mask k (x ∷ xs) = x.mask

-- A step without its mark and mask.
abbrev pub bare_step : Taken → Step
bare_step x = record { number = x.passage; reached = x.zone }

-- The steps without marks and masks, oldest first.
abbrev pub bare_steps : List Taken → List Step
bare_steps [] = []
bare_steps (x ∷ xs) = bare_steps xs ++ (bare_step x ∷ [])

-- The route of a track: its steps in turn, without marks and masks.
abbrev pub bare : Track → Route
bare t = record { start = t.start; steps = bare_steps t.steps }

-- The route with one more step at its end.
abbrev pub longer : Route → Step → Route
longer r s = record { start = r.start; steps = r.steps ++ (s ∷ []) }

-- The route without its last step; a route of no step stays as it is.
abbrev pub shorter : Route → Route
shorter r = record { start = r.start; steps = take (len r - 1) r.steps }

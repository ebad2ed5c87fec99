-- How the arrays of the route record are read: entry 0 is the oldest step, and only the first `len` entries count.
use Rattle.std.specs.Prelude.{◌≡◌, ℕ, zero, suc, ◌+◌, Bool, not, ◌||◌, List, [], ◌∷◌, ◌++◌, map, Some, None, Option, ◌==◌, slice_index, slice_set}
use Rattle.model.specs.Routes as model
use Rattle.model.specs.Routes.{Step}
use Rattle.route.specs.Tracks.{Taken, Track, shorter}
use Rattle.route.specs.declared.Route.{Route}

-- The step at the place n: passage and zone reached.
abbrev pub step_at : Route → ℕ → Step
step_at r n = record { number = slice_index r.passages n; reached = slice_index r.zones n }

-- The first n steps, oldest first.
unfoldable pub steps_of : (ℕ → Step) → ℕ → List Step
steps_of at zero = []
steps_of at (suc n) = steps_of at n ++ (at n ∷ [])

-- The route that the record holds: the start and the first `len` steps.
abbrev pub route_of : Route → model.Route
route_of r = record { start = r.start; steps = steps_of (step_at r) r.len }

-- The zones that the steps reach, in turn.
abbrev pub reached_zones : List Step → List ℕ
reached_zones ss = map (λ (s : Step). s.reached) ss

-- Whether a route is open: it has no step, or is not back at its start.
abbrev pub open_ended : model.Route → Bool
open_ended r = model.len r == 0 || not (model.end r == r.start)

-- The step at the place n with its mark and mask.
abbrev pub taken_at : Route → ℕ → Taken
taken_at r n = record { passage = slice_index r.passages n; zone = slice_index r.zones n; mark = slice_index r.marks n; mask = slice_index r.masks n }

-- The first n steps with marks and masks, newest first.
unfoldable pub taken_of : (ℕ → Taken) → ℕ → List Taken
taken_of at zero = []
taken_of at (suc n) = at n ∷ taken_of at n

-- The track that the record holds.
abbrev pub track_of : Route → Track
track_of r = record { start = r.start; steps = taken_of (taken_at r) r.len }

-- The record holds no step.
pub record AtStart (r : Route) : Type 0 where
  pub none : r.len ≡ 0
  pub track : (track_of r).steps ≡ []
  pub route : (route_of r).steps ≡ []

-- The last step of the record is that at the place n, and n steps come before it.
pub record AtStep (r : Route) (n : ℕ) : Type 0 where
  pub place : r.len ≡ n + 1
  pub count : model.len (route_of r) ≡ n + 1
  pub track : (track_of r).steps ≡ taken_at r n ∷ taken_of (taken_at r) n
  pub before : steps_of (step_at r) n ≡ (shorter (route_of r)).steps
  pub ends : model.end (route_of r) ≡ slice_index r.zones n

-- The place of the last step, if there is one.
abbrev pub LastAt : Route → Option ℕ → Type 0
LastAt r None = AtStart r
LastAt r (Some n) = AtStep r n

-- The record q is r with the step x written behind its last one, and counted.
pub record Written (r q : Route) (x : Taken) : Type 0 where
  pub start : q.start ≡ r.start
  pub passages : q.passages ≡ slice_set r.passages r.len x.passage
  pub zones : q.zones ≡ slice_set r.zones r.len x.zone
  pub marks : q.marks ≡ slice_set r.marks r.len x.mark
  pub masks : q.masks ≡ slice_set r.masks r.len x.mask
  pub len : q.len ≡ r.len + 1

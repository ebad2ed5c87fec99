-- A walk along the words of a record.
use Rattle.std.specs.Prelude.{◌≡◌, ℕ, ◌≤◌, Bool, true, false, List, [], ◌++◌, length, Some, ◌≢◌}
use Rattle.model.specs.Plans.{PlanMeaning}
use Rattle.model.specs.Rules.{RuleMeaning}
use Rattle.model.specs.Records.{Line, words}
use Rattle.automaton.specs.declared.Automaton.{Automaton}
use Rattle.search.specs.declared.cursor.Cursor.{Cursor}
use Rattle.search.specs.Trails.{trail}
use Rattle.route.specs.declared.Route.{Route}
use Rattle.route.specs.Reading.{track_of}
use Rattle.route.specs.Tracks.{Track}
use Rattle.search.specs.Spaces.{Code, Space, added}
use Rattle.search.specs.Listings.{Standing, route_at}
use Rattle.search.specs.Hunts.{space_of}
use Rattle.bridge.specs.Ahead.{From}
use Rattle.enquiry.specs.Records.{record_on}

abbrev pub code : ℕ → ℕ → Code
code p m = record { passage = p; mark = m }

abbrev pub Trodden : Space → Track → ℕ → ℕ → ℕ → Bool → Track → Type 0
Trodden t s p z m true e = (mask : ℕ) × (t.reach s (code p m) ≡ Some (z, mask)) × (e ≡ added s (code p m) (z, mask))
Trodden t s p z m false e = (mask : ℕ) → t.reach s (code p m) ≢ Some (z, mask)

pub record Walked (pl : PlanMeaning) (ru : RuleMeaning) (a : Automaton) (d : Cursor) (ws : List ℕ) (r : Route) : Type 0 where
  pub starts : r.start ≡ (trail d.progress).start
  pub stands : Standing (space_of pl ru a d.target d.most) (track_of r)
  pub final : (space_of pl ru a d.target d.most).final (track_of r) ≡ true
  pub rest : List ℕ
  pub holds : ws ≡ record_on (track_of r) rest

-- no lines of an answer stand in the words
abbrev pub NotWalked : PlanMeaning → RuleMeaning → Automaton → Cursor → List ℕ → Type 0
NotWalked pl ru a d ws = (ls : List Line) (rest : List ℕ) → From pl ru a d.target (route_at (trail d.progress).start []) ls → length ls ≤ d.most → ws ≢ words (record { start = (trail d.progress).start; lines = ls }) ++ rest

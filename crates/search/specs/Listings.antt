-- The answer that follows a route in the order of codes.
use Rattle.std.specs.Prelude.{◌≡◌, ℕ, Bool, true, false, List, [], ◌∷◌, Some}
use Rattle.route.specs.Tracks.{Taken, Track}
use Rattle.search.specs.Spaces.{Code, Space, Goal, Earlier}

abbrev pub code_of : Taken → Code
code_of x = record { passage = x.passage; mark = x.mark }

-- the codes of a route, oldest first, and then those of v
abbrev pub codes_on : List Taken → List Code → List Code
codes_on [] v = v
codes_on (x ∷ xs) v = codes_on xs (code_of x ∷ v)

abbrev pub codes_of : Track → List Code
codes_of s = codes_on s.steps []

abbrev pub route_at : ℕ → List Taken → Track
route_at z xs = record { start = z; steps = xs }

-- each step of the route may be added to the part before it, and reaches what the route says
abbrev pub StandingOn : Space → ℕ → List Taken → Type 0
StandingOn t z [] = Unit {0}
StandingOn t z (x ∷ xs) = StandingOn t z xs × (t.reach (route_at z xs) (code_of x) ≡ Some (x.zone, x.mask))

abbrev pub Standing : Space → Track → Type 0
Standing t s = StandingOn t s.start s.steps

-- e is the answer that follows u, of those that begin at zone z
pub record Follows (t : Space) (z : ℕ) (u : List Code) (e : Track) : Type 0 where
  pub starts : e.start ≡ z
  pub stands : Standing t e
  pub answer : Goal t (route_at z []) (codes_of e)
  pub later : Earlier u (codes_of e)
  pub least : (w : List Code) → Goal t (route_at z []) w → Earlier u w → Earlier w (codes_of e) → ⊥

unfoldable pub Followed : Space → Track → Bool → Track → Type 0
Followed t s true e = Follows t s.start (codes_of s) e
Followed t s false e = (w : List Code) → Goal t (route_at s.start []) w → Earlier (codes_of s) w → ⊥

-- what is still to come: all, or what is later than u where the listing has begun
abbrev pub ToCome : Bool → List Code → List Code → Type 0
ToCome true u w = Earlier u w
ToCome false u w = Unit {0}

-- e is the first answer of those to come
pub record Delivers (t : Space) (z : ℕ) (b : Bool) (u : List Code) (e : Track) : Type 0 where
  pub starts : e.start ≡ z
  pub stands : Standing t e
  pub answer : Goal t (route_at z []) (codes_of e)
  pub later : ToCome b u (codes_of e)
  pub least : (w : List Code) → Goal t (route_at z []) w → ToCome b u w → Earlier w (codes_of e) → ⊥

unfoldable pub Delivered : Space → Bool → Track → Bool → Track → Type 0
Delivered t b s true e = Delivers t s.start b (codes_of s) e
Delivered t b s false e = (w : List Code) → Goal t (route_at s.start []) w → ToCome b (codes_of s) w → ⊥

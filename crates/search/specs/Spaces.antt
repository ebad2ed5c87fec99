-- A tree of routes: which step may be added where, and which routes are answers. Answers below a route, and the first of them.
use Rattle.std.specs.Prelude.{◌≡◌, ℕ, ◌<◌, ◌≤◌, Bool, true, false, ◌⊎◌, List, [], ◌∷◌, Some, None, Option}
use Rattle.route.specs.Tracks.{Track}

-- a step as it is compared: a passage and a mark
pub record Code : Type 0 where
  pub passage : ℕ
  pub mark : ℕ

pub record Space : Type 0 where
  -- the zone and the mask that a step reaches, or none where it may not be added
  pub reach : Track → Code → Option (ℕ × ℕ)
  pub final : Track → Bool

abbrev pub added : Track → Code → (ℕ × ℕ) → Track
added s c a = record { start = s.start; steps = record { passage = c.passage; zone = a.0; mark = c.mark; mask = a.1 } ∷ s.steps }

-- the route with these codes added, as far as they may be
abbrev pub grow : Space → Track → List Code → Track
grow t s [] = s
grow t s (c ∷ u) = elim (t.reach s c) [ Some a ↦ grow t (added s c a) u | None ↦ s ]

-- s with u added is an answer
abbrev pub Goal : Space → Track → List Code → Type 0
Goal t s [] = t.final s ≡ true
Goal t s (c ∷ u) = elim (t.reach s c) [ Some a ↦ Goal t (added s c a) u | None ↦ ⊥ ]

-- the order of codes, and of lists of them
abbrev pub Before : Code → Code → Type 0
Before c d = (c.passage < d.passage) ⊎ ((c.passage ≡ d.passage) × (c.mark < d.mark))

abbrev pub Earlier : List Code → List Code → Type 0
Earlier [] [] = ⊥
Earlier [] (d ∷ v) = Unit {0}
Earlier (c ∷ u) [] = ⊥
Earlier (c ∷ u) (d ∷ v) = Before c d ⊎ ((c ≡ d) × Earlier u v)

-- sets of codes that a search goes through
abbrev pub Any : Code → Type 0
Any c = Unit {0}

abbrev pub Only : ℕ → ℕ → Code → Type 0
Only p m c = (c.passage ≡ p) × (c.mark ≡ m)

abbrev pub Marks : ℕ → ℕ → Code → Type 0
Marks p m c = (c.passage ≡ p) × (m ≤ c.mark)

abbrev pub Onward : ℕ → ℕ → Code → Type 0
Onward p m c = (p < c.passage) ⊎ ((c.passage ≡ p) × (m ≤ c.mark))

-- those of a passage with a mark from m on and below n
abbrev pub Between : ℕ → ℕ → ℕ → Code → Type 0
Between p m n c = (c.passage ≡ p) × (m ≤ c.mark) × (c.mark < n)

-- those from (p, m) on with a passage below n
abbrev pub Under : ℕ → ℕ → ℕ → Code → Type 0
Under p m n c = Onward p m c × (c.passage < n)

abbrev pub Begins : (Code → Type 0) → List Code → Type 0
Begins Q [] = ⊥
Begins Q (c ∷ u) = Q c

pub record First (t : Space) (s : Track) (Q : Code → Type 0) (u : List Code) : Type 0 where
  pub begins : Begins Q u
  pub answer : Goal t s u
  pub least : (v : List Code) → Begins Q v → Goal t s v → Earlier v u → ⊥

abbrev pub Nothing : Space → Track → (Code → Type 0) → Type 0
Nothing t s Q = (v : List Code) → Begins Q v → Goal t s v → ⊥

-- what a search over Q below s leaves, where it says b and the route is then e
unfoldable pub Sought : Space → Track → (Code → Type 0) → Bool → Track → Type 0
Sought t s Q true e = (u : List Code) × (e ≡ grow t s u) × First t s Q u
Sought t s Q false e = (e ≡ s) × Nothing t s Q

-- Runs of a position automaton, over any letters. At q x: the position q fits the letter x. E s q: q may follow s.
use Rattle.std.specs.Prelude.{ℕ, ◌<◌, ◌≤◌, ◌⊎◌, ◌↔◌, List, [], ◌∷◌}

-- A set of positions.
abbrev pub Set : Type 1
Set = ℕ → Type 0

-- Which position may follow which.
abbrev pub Edges : Type 1
Edges = ℕ → ℕ → Type 0

-- From q, whose letter has been read, the list w leads to a position of L.
abbrev pub Run : {A : Type 0} → (ℕ → A → Type 0) → Edges → Set → ℕ → List A → Type 0
Run At E L q [] = L q
Run At E L q (x ∷ w) = (s : ℕ) × E q s × At s x × Run At E L s w

-- A fragment: whether it reads nothing, its first positions and its last ones.
pub record Frag : Type 1 where
  pub null : Type 0
  pub first : Set
  pub last : Set

-- The fragment f accepts a list.
abbrev pub Accept : {A : Type 0} → (ℕ → A → Type 0) → Edges → Frag → List A → Type 0
Accept At E f [] = f.null
Accept At E f (x ∷ w) = (s : ℕ) × f.first s × At s x × Run At E f.last s w

-- The positions from lo up to hi.
abbrev pub In : ℕ → ℕ → Set
In lo hi q = (lo ≤ q) × (q < hi)

-- The fragment f, over the positions from lo up to hi of the table E, accepts the lists of P.
pub record Means {A : Type 0} (At : ℕ → A → Type 0) (E : Edges) (f : Frag) (lo hi : ℕ) (P : List A → Type 0) : Type 0 where
  pub first_in : (q : ℕ) → f.first q → In lo hi q
  pub last_in : (q : ℕ) → f.last q → In lo hi q
  pub follow_in : (s q : ℕ) → In lo hi s → E s q → In lo hi q
  pub sound : (w : List A) → Accept At E f w → P w
  pub complete : (w : List A) → P w → Accept At E f w

-- The fragment of one after the other.
abbrev pub then_frag : Frag → Frag → Frag
then_frag f g = record { null = f.null × g.null; first = λ q. f.first q ⊎ (f.null × g.first q); last = λ q. g.last q ⊎ (g.null × f.last q) }

-- The fragment of one or the other.
abbrev pub or_frag : Frag → Frag → Frag
or_frag f g = record { null = f.null ⊎ g.null; first = λ q. f.first q ⊎ g.first q; last = λ q. f.last q ⊎ g.last q }

-- A fragment that may also read nothing.
abbrev pub star_frag : Frag → Frag
star_frag f = record { null = Unit {0}; first = f.first; last = f.last }

-- Two fragments say the same.
pub record Same (f g : Frag) : Type 0 where
  pub null : f.null ↔ g.null
  pub first : (q : ℕ) → f.first q ↔ g.first q
  pub last : (q : ℕ) → f.last q ↔ g.last q

-- The set that the letters of a list lead to from the set M.
abbrev pub Stepped : {A : Type 0} → (ℕ → A → Type 0) → Edges → Set → List A → Set
Stepped At E M [] q = M q
Stepped At E M (x ∷ w) q = Stepped At E (λ t. ((s : ℕ) × M s × E s t) × At t x) w q

-- The tables of an automaton as relations, and what they recognise.
use Rattle.std.specs.Prelude.{◌≡◌, ℕ, ◌<◌, ◌≤◌, true, ◌↔◌, ◌++◌, slice_index}
use Rattle.model.specs.Patterns.{Tree, ◌then◌, ◌or◌}
use Rattle.bits.specs.Bit.{Has}
pub use Rattle.automaton.specs.Positions.{FitAt, Known}
use Rattle.automaton.specs.Readings.{Pair, Word, Reads}
use Rattle.automaton.specs.Run.{Edges, Frag, Set, Run, Means, Stepped}
use Rattle.automaton.specs.declared.Automaton.{Automaton}
use Rattle.automaton.specs.declared.Fragment.{Fragment}

-- Which state follows which.
abbrev pub edges : Automaton → Edges
edges a s q = Has (slice_index a.follow s) q

-- The position q fits the pair x.
abbrev pub at : Automaton → ℕ → Pair → Type 0
at a q x = FitAt a.fits a.any x.0 q × Has (slice_index a.marked x.1) q

-- What the masks of a fragment say.
abbrev pub frag : Fragment → Frag
frag f = record { null = f.nullable ≡ true; first = Has f.first; last = Has f.last }

-- The state q is reached from the states of the mask by the pair x.
abbrev pub Moves : Automaton → ℕ → Pair → Set
Moves a mask x q = ((s : ℕ) × Has mask s × edges a s q) × at a q x

-- Over the positions from lo up to hi of a, the fragment f reads what the tree reads.
abbrev pub Compiled : Automaton → Fragment → ℕ → ℕ → Tree → Type 0
Compiled a f lo hi p = Means (at a) (edges a) (frag f) lo hi (Reads p)

-- The automaton b is a on the positions below n.
pub record Extends (a b : Automaton) (n : ℕ) : Type 0 where
  pub rows : (s q : ℕ) → s < n → edges a s q ↔ edges b s q
  pub ats : (q : ℕ) (x : Pair) → q < n → at a q x ↔ at b q x

-- The fragment r of b reads what the tree reads, and the positions before it are as in a.
pub record Built (a b : Automaton) (r : Fragment) (lo hi : ℕ) (p : Tree) : Type 0 where
  pub compiled : Compiled b r lo hi p
  pub kept : Extends a b lo

-- Where f and g read two trees over neighbouring ranges of a, r reads the one and then the other in b.
abbrev pub InTurn : Automaton → Automaton → Fragment → Fragment → Fragment → Type 0
InTurn a b f g r = (lo mid hi : ℕ) (p q : Tree) → lo ≤ mid → mid ≤ hi → Compiled a f lo mid p → Compiled a g mid hi q → Built a b r lo hi (p then q)

-- Where f and g read two trees over neighbouring ranges of a, r reads the one or the other.
abbrev pub Either : Automaton → Fragment → Fragment → Fragment → Type 0
Either a f g r = (lo mid hi : ℕ) (p q : Tree) → lo ≤ mid → mid ≤ hi → Compiled a f lo mid p → Compiled a g mid hi q → Compiled a r lo hi (p or q)

-- Only the positions below the count fit anything.
pub record Within (a : Automaton) : Type 0 where
  pub fits : (k q : ℕ) → FitAt a.fits a.any k q → q < a.count
  pub marked : (k q : ℕ) → Has (slice_index a.marked k) q → q < a.count

-- The automaton b has the positions of a.
pub record Keeps (a b : Automaton) : Type 0 where
  pub count : b.count ≡ a.count
  pub within : Within a → Within b

-- The state before the first passage.
abbrev pub start : ℕ
start = 31

-- The mask has exactly the states that the word leads to.
abbrev pub Holds : Automaton → Word → ℕ → Type 0
Holds a w mask = (q : ℕ) → Has mask q ↔ Stepped (at a) (edges a) (λ s. s ≡ start) w q

-- The word leads to a state that accepts.
abbrev pub Accepted : Automaton → Word → Type 0
Accepted a w = (q : ℕ) × Stepped (at a) (edges a) (λ s. s ≡ start) w q × Has a.accept q

-- The automaton recognises the tree: it accepts exactly the words that the tree reads.
abbrev pub Recognises : Automaton → Tree → Type 0
Recognises a p = (w : Word) → Accepted a w ↔ Reads p w

-- From a state of the mask the word leads to one that accepts.
abbrev pub Leads : Automaton → ℕ → Word → Type 0
Leads a mask v = (s : ℕ) × Has mask s × Run (at a) (edges a) (Has a.accept) s v

-- The mask stands behind the word w in the tree: it leads on by exactly those words that complete w to a word that the
-- tree reads.
abbrev pub Stands : Automaton → Tree → Word → ℕ → Type 0
Stands a p w mask = (v : Word) → Leads a mask v ↔ Reads p (w ++ v)

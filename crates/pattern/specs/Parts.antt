-- The parts of a pattern that is read, against the state of the machine that reads symbols: each fragment reads a tree of
-- the machine over a range of positions of its own, and the ranges stand side by side.
use Rattle.std.specs.Prelude.{◌≡◌, ℕ, suc, ◌<◌, ◌≤◌, List, [], ◌∷◌, Some, None, Option, slice_index_or}
use Rattle.std.specs.Coded.{×_prop, Unit-prop, le_prop}
use Rattle.model.specs.Patterns.{Tree}
use Rattle.model.specs.declared.Label.{Label}
use Rattle.model.specs.declared.Label.TheVariants.{Kind, Any}
use Rattle.automaton.specs.Tables.{Compiled, Built, Keeps, Known}
use Rattle.automaton.specs.declared.Automaton.{Automaton}
use Rattle.automaton.specs.declared.Fragment.{Fragment}
use Rattle.grammar.specs.Grammar as grammar
use Rattle.grammar.specs.Machine as machine
use Rattle.grammar.specs.Machine.{joined, or_else}
use Rattle.grammar.specs.declared.Symbol.{Symbol}
use Rattle.grammar.specs.declared.Symbol.TheVariants as symbol
use Rattle.grammar.specs.declared.Times.{Times}
use Rattle.pattern.specs.declared.levels.Level.{Level}
use Rattle.pattern.specs.declared.parser.Mode.{Mode}
use Rattle.pattern.specs.declared.parser.Mode.TheVariants.{Due, Named, Marking, Atom, Item}

-- A fragment reads a tree over the positions from lo up to hi; where there is none there are no positions.
pub data Held (a : Automaton) (lo hi : ℕ) : Option Fragment → Option Tree → Type 0 where
  no_part : lo ≡ hi → Held a lo hi None None
  a_part : {f : Fragment} {t : Tree} → lo ≤ hi → Compiled a f lo hi t → Held a lo hi (Some f) (Some t)

-- What was read last, from the position lo on. A name that may still get a letter has no position yet, and there is
-- room for it.
pub data Last (a : Automaton) (lo : ℕ) : Mode → machine.Mode → Type 0 where
  is_due : lo ≡ a.count → Last a lo Due machine.due
  is_named : {l : Label} → lo ≡ a.count → a.count < 31 → Known l → Last a lo (Named l) (machine.named l)
  is_marking : {l : Label} → lo ≡ a.count → a.count < 31 → Known l → Last a lo (Marking l) (machine.marking l)
  is_atom : {f : Fragment} {t : Tree} → lo ≤ a.count → Compiled a f lo a.count t → Last a lo (Atom f) (machine.atomed t)
  is_item : {f : Fragment} {t : Tree} → lo ≤ a.count → Compiled a f lo a.count t → Last a lo (Item f) (machine.itemed t)

-- A level without sequences and items.
abbrev pub no_level : Level
no_level = record { sequences = None; items = None }

-- The n open levels, the innermost first, over the positions below hi.
abbrev pub OpenLevels : Automaton → ℕ → List Level → ℕ → List machine.Level → Type 0
OpenLevels a hi ls n [] = (n ≡ 0) × (hi ≡ 0)
OpenLevels a hi ls n (machine.level b p ∷ fs) =
    (k : ℕ) × (lo : ℕ) × (mid : ℕ) × (n ≡ suc k) × OpenLevels a lo ls k fs × Held a lo mid (slice_index_or ls k no_level).sequences b × Held a mid hi (slice_index_or ls k no_level).items p

-- A name that has no position yet.
abbrev pub pending : machine.Mode → ℕ
pending machine.due = 0
pending (machine.named l) = 1
pending (machine.marking l) = 1
pending (machine.atomed t) = 0
pending (machine.itemed t) = 0

-- There is room for a name that has no position yet, and its label is one that a text can have.
abbrev pub Room : Automaton → Mode → Type 0
Room a Due = Unit {0}
Room a (Named l) = (a.count < 31) × Known l
Room a (Marking l) = (a.count < 31) × Known l
Room a (Atom f) = Unit {0}
Room a (Item f) = Unit {0}

pub known_prop : (l : Label) → IsProp (Known l)
known_prop (Kind k) = le_prop
known_prop Any = Unit-prop

pub room_prop : (a : Automaton) (m : Mode) → IsProp (Room a m)
room_prop a Due = Unit-prop
room_prop a (Named l) = ×_prop le_prop (known_prop l)
room_prop a (Marking l) = ×_prop le_prop (known_prop l)
room_prop a (Atom f) = Unit-prop
room_prop a (Item f) = Unit-prop

-- The fragment reads the tree from lo on, up to the last position, and the positions below lo are as they were.
pub record Added (a b : Automaton) (lo : ℕ) (f : Fragment) (t : Tree) : Type 0 where
  pub below : lo ≤ b.count
  pub built : Built a b f lo b.count t

-- The item stands behind those before it.
abbrev pub JoinedTo : Automaton → Automaton → Option Fragment → Fragment → Fragment → Type 0
JoinedTo a b items item r =
    Keeps a b × ((lo mid : ℕ) (q : Option Tree) (t : Tree) → Held a lo mid items q → mid ≤ a.count → Compiled a item mid a.count t → Built a b r lo b.count (joined q t))

-- The sequence, or one of those before it.
abbrev pub EitherOf : Automaton → Option Fragment → Fragment → Fragment → Type 0
EitherOf a sequences sequence r =
    (lo mid : ℕ) (b : Option Tree) (t : Tree) → Held a lo mid sequences b → mid ≤ a.count → Compiled a sequence mid a.count t → Compiled a r lo a.count (or_else b t)

-- The atom is repeated.
abbrev pub Repeated : Automaton → Automaton → Times → Fragment → Fragment → Type 0
Repeated a b times atom r = Keeps a b × ((lo : ℕ) (t : Tree) → Compiled a atom lo a.count t → Built a b r lo b.count (grammar.repeated times t))

-- A symbol that a text can have: a name of a kind or `any`, and a letter 1 to 8.
abbrev pub Usable : Symbol → Type 0
Usable (symbol.Name l) = Known l
Usable symbol.Empty = Unit {0}
Usable (symbol.Letter m) = m < 9
Usable symbol.Caret = Unit {0}
Usable symbol.Bar = Unit {0}
Usable (symbol.Repeat t) = Unit {0}
Usable symbol.Open = Unit {0}
Usable symbol.Close = Unit {0}

-- What holds of the grammar.
use Rattle.std.specs.Prelude.{◌≡◌, ◌↔◌, List, Some, None}
use Rattle.model.specs.Patterns.{Tree}
use Rattle.grammar.specs.declared.Symbol.{Symbol}
use Rattle.grammar.specs.Grammar.{Pattern, Begins}
use Rattle.grammar.specs.Machine.{State, run, start, finish}

-- The machine reads all the symbols, and ends with the tree.
abbrev pub Accepts : List Symbol → Tree → Type 0
Accepts ts t = (s : State) × (run (Some start) ts ≡ Some s) × (finish s ≡ Some t)

-- The machine goes on exactly while some pattern begins with the symbols.
abbrev pub GoesOn : Type 0
GoesOn =
    ((ts : List Symbol) (s : State) → run (Some start) ts ≡ Some s → Begins ts) × ((ts : List Symbol) → run (Some start) ts ≡ None → Begins ts → ⊥)

-- The machine ends with a tree exactly when the grammar gives it.
abbrev pub GivesTree : Type 0
GivesTree = (ts : List Symbol) (t : Tree) → Pattern ts t ↔ Accepts ts t

-- Symbols have at most one tree.
abbrev pub OneTree : Type 0
OneTree = (ts : List Symbol) (t u : Tree) → Pattern ts t → Pattern ts u → t ≡ u

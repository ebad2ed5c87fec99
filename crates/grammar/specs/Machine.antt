-- The reading of symbols one by one.
use Rattle.std.specs.Prelude.{ℕ, List, [], ◌∷◌, Some, None, Option}
use Rattle.model.specs.declared.Label.{Label}
use Rattle.model.specs.Patterns.{Tree, name, empty, ◌then◌, ◌or◌}
use Rattle.model.specs.Records.{letter}
use Rattle.grammar.specs.declared.Times.{Times}
use Rattle.grammar.specs.Grammar.{repeated}
use Rattle.grammar.specs.declared.Symbol.{Symbol}
use Rattle.grammar.specs.declared.Symbol.TheVariants.{Name, Empty, Letter, Caret, Bar, Repeat, Open, Close}

-- What was read last: nothing, so that an atom is due; a name, which `^` may follow; a name and `^`, so that a letter is
-- due; an atom, which `*`, `+` or `?` may follow; an item.
pub data Mode : Type 0 where
  due : Mode
  named : Label → Mode
  marking : Label → Mode
  atomed : Tree → Mode
  itemed : Tree → Mode

-- What stands before an open parenthesis: the sequences before the last `|`, and the items behind it.
pub data Level : Type 0 where
  level : Option Tree → Option Tree → Level

-- The levels that are open, the innermost first; since the innermost, the sequences before the last `|`, the items
-- behind it, and what was read last.
pub data State : Type 0 where
  at : List Level → Option Tree → Option Tree → Mode → State

-- A tree behind what stands before it
abbrev pub joined : Option Tree → Tree → Tree
joined None t = t
joined (Some q) t = q then t

-- A tree or those before the last `|`.
abbrev pub or_else : Option Tree → Tree → Tree
or_else None t = t
or_else (Some a) t = a or t

-- The item that is read, if one is
abbrev pub ready : Mode → Option Tree
ready due = None
ready (named w) = Some (name w None)
ready (marking w) = None
ready (atomed t) = Some t
ready (itemed t) = Some t

-- An atom begins: the items before it
abbrev pub begin : Option Tree → Mode → Option (Option Tree)
begin q due = Some q
begin q (named w) = Some (Some (joined q (name w None)))
begin q (marking w) = None
begin q (atomed t) = Some (Some (joined q t))
begin q (itemed t) = Some (Some (joined q t))

-- An atom has begun behind the items.
abbrev pub begun : List Level → Option Tree → Mode → Option (Option Tree) → Option State
begun fs a m None = None
begun fs a m (Some q) = Some (at fs a q m)

-- A parenthesis is opened behind the items.
abbrev pub opened : List Level → Option Tree → Option (Option Tree) → Option State
opened fs a None = None
opened fs a (Some q) = Some (at (level a q ∷ fs) None None due)

-- `|` ends a sequence, if an item is read.
abbrev pub barred : List Level → Option Tree → Option Tree → Option Tree → Option State
barred fs a q None = None
barred fs a q (Some t) = Some (at fs (Some (or_else a (joined q t))) None due)

-- `)` ends a pattern, if one is open and an item is read.
abbrev pub closed : List Level → Option Tree → Option Tree → Option Tree → Option State
closed [] a q t = None
closed (level b p ∷ fs) a q None = None
closed (level b p ∷ fs) a q (Some t) = Some (at fs b p (atomed (or_else a (joined q t))))

-- `*`, `+` or `?` behind an atom.
abbrev pub times_by : Times → Mode → Option Mode
times_by s due = None
times_by s (named w) = Some (itemed (repeated s (name w None)))
times_by s (marking w) = None
times_by s (atomed t) = Some (itemed (repeated s t))
times_by s (itemed t) = None

-- `^` behind a name.
abbrev pub careted : Mode → Option Mode
careted due = None
careted (named w) = Some (marking w)
careted (marking w) = None
careted (atomed t) = None
careted (itemed t) = None

-- A letter behind `^`.
abbrev pub lettered : ℕ → Mode → Option Mode
lettered l due = None
lettered l (named w) = None
lettered l (marking w) = Some (atomed (name w (letter l)))
lettered l (atomed t) = None
lettered l (itemed t) = None

-- The state with another mode.
abbrev pub in_mode : List Level → Option Tree → Option Tree → Option Mode → Option State
in_mode fs a q None = None
in_mode fs a q (Some m) = Some (at fs a q m)

-- One symbol more, or none if it is misplaced.
abbrev pub step_at : List Level → Option Tree → Option Tree → Mode → Symbol → Option State
step_at fs a q m (Name w) = begun fs a (named w) (begin q m)
step_at fs a q m Empty = begun fs a (atomed empty) (begin q m)
step_at fs a q m (Letter l) = in_mode fs a q (lettered l m)
step_at fs a q m Caret = in_mode fs a q (careted m)
step_at fs a q m Bar = barred fs a q (ready m)
step_at fs a q m (Repeat s) = in_mode fs a q (times_by s m)
step_at fs a q m Open = opened fs a (begin q m)
step_at fs a q m Close = closed fs a q (ready m)

-- One symbol more.
abbrev pub step : State → Symbol → Option State
step (at fs a q m) s = step_at fs a q m s

-- The symbols of a list, one after the other.
abbrev pub run : Option State → List Symbol → Option State
run None ts = None
run (Some s) [] = Some s
run (Some s) (x ∷ ts) = run (step s x) ts

-- The state before the first symbol.
abbrev pub start : State
start = at [] None None due

-- The tree of the sequences and items, if an item is read.
abbrev pub finished : Option Tree → Option Tree → Option Tree → Option Tree
finished a q None = None
finished a q (Some t) = Some (or_else a (joined q t))

-- The tree at the end of the text, if nothing is open
abbrev pub finish : State → Option Tree
finish (at [] a q m) = finished a q (ready m)
finish (at (f ∷ fs) a q m) = None

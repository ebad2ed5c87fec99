-- The grammar of patterns, by concatenation: which symbols are a pattern, and the tree that they give.
use Rattle.std.specs.Prelude.{ℕ, List, [], ◌∷◌, ◌++◌, None}
use Rattle.model.specs.declared.Label.{Label}
use Rattle.model.specs.Patterns.{Tree, name, empty, ◌then◌, ◌or◌, star, plus, maybe}
use Rattle.model.specs.Records.{letter}
use Rattle.grammar.specs.declared.Times.{Times}
use Rattle.grammar.specs.declared.Times.TheVariants.{ZeroOrMore, OneOrMore, ZeroOrOne}
use Rattle.grammar.specs.declared.Symbol.{Symbol}
use Rattle.grammar.specs.declared.Symbol.TheVariants.{Name, Empty, Letter, Caret, Bar, Repeat, Open, Close}

-- The tree of an atom with `*`, `+` or `?`.
abbrev pub repeated : Times → Tree → Tree
repeated ZeroOrMore t = star t
repeated OneOrMore t = plus t
repeated ZeroOrOne t = maybe t

mutual
  -- An atom: a name; `empty`; a name, `^` and a letter; a pattern in parentheses.
  pub data Atom : List Symbol → Tree → Type 0 where
    kind : (l : Label) → Atom (Name l ∷ []) (name l None)
    nothing : Atom (Empty ∷ []) empty
    marked : (l : Label) (m : ℕ) → Atom (Name l ∷ Caret ∷ Letter m ∷ []) (name l (letter m))
    group : {ts : List Symbol} {t : Tree} → Pattern ts t → Atom (Open ∷ (ts ++ Close ∷ [])) t

  -- An item: an atom, or an atom and one of `*`, `+`, `?`.
  pub data Item : List Symbol → Tree → Type 0 where
    plain : {ts : List Symbol} {t : Tree} → Atom ts t → Item ts t
    times : {ts : List Symbol} {t : Tree} (k : Times) → Atom ts t → Item (ts ++ Repeat k ∷ []) (repeated k t)

  -- A sequence: one or more items.
  pub data Sequence : List Symbol → Tree → Type 0 where
    single : {ts : List Symbol} {t : Tree} → Item ts t → Sequence ts t
    more : {ts us : List Symbol} {t u : Tree} → Sequence ts t → Item us u → Sequence (ts ++ us) (t then u)

  -- A pattern: one or more sequences joined by `|`.
  pub data Pattern : List Symbol → Tree → Type 0 where
    lone : {ts : List Symbol} {t : Tree} → Sequence ts t → Pattern ts t
    another : {ts us : List Symbol} {t u : Tree} → Pattern ts t → Sequence us u → Pattern (ts ++ Bar ∷ us) (t or u)

-- Some pattern begins with the symbols.
abbrev pub Begins : List Symbol → Type 0
Begins ts = (rest : List Symbol) × (t : Tree) × Pattern (ts ++ rest) t

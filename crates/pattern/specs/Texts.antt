-- Which texts are patterns, and which rule of patterns a text breaks first.
use Rattle.std.specs.Prelude.{◌≡◌, ℕ, ◌+◌, ◌-◌, ◌<◌, ◌⊎◌, List, [], ◌∷◌, ◌++◌, length}
use Rattle.fault.specs.Faults.{pattern_number}
use Rattle.fault.specs.declared.Fault.{Fault}
use Rattle.fault.specs.declared.Fault.TheVariants as fault
use Rattle.fault.specs.declared.PatternFault.{PatternFault}
use Rattle.fault.specs.declared.PatternFault.TheVariants.{Long, Byte, Unknown, Misplaced, Names, Nested}
use Rattle.model.specs.Patterns.{Tree}
use Rattle.model.specs.declared.Label.{Label}
use Rattle.grammar.specs.Grammar as grammar
use Rattle.grammar.specs.Grammar.{Begins}
use Rattle.grammar.specs.declared.Symbol.{Symbol}
use Rattle.grammar.specs.declared.Symbol.TheVariants.{Name, Empty, Letter, Caret, Bar, Repeat, Open, Close}
use Rattle.reader.specs.Symbols.{Cut}
use Rattle.reader.specs.Tokens.{ByteAt, EndAt, SymbolAt, UnknownAt}
use Rattle.reader.specs.declared.class.Class.TheVariants.{Refused}

-- The text gives the tree: it is cut into symbols up to its end, and the symbols are a pattern with that tree.
pub record Gives (text : List ℕ) (t : Tree) : Type 0 where
  pub symbols : List Symbol
  pub to : ℕ
  pub cut : Cut text 0 symbols to
  pub ends : EndAt text to
  pub is : grammar.Pattern symbols t

-- How many names there are with one symbol more.
abbrev pub counted : Symbol → ℕ → ℕ
counted (Name l) n = n + 1
counted Empty n = n
counted (Letter m) n = n
counted Caret n = n
counted Bar n = n
counted (Repeat k) n = n
counted Open n = n
counted Close n = n

-- How many parentheses are open with one symbol more.
abbrev pub opened : Symbol → ℕ → ℕ
opened (Name l) d = d
opened Empty d = d
opened (Letter m) d = d
opened Caret d = d
opened Bar d = d
opened (Repeat k) d = d
opened Open d = d + 1
opened Close d = d - 1

-- How many names there are with the symbols behind n names.
abbrev pub names_from : ℕ → List Symbol → ℕ
names_from n [] = n
names_from n (s ∷ ts) = names_from (counted s n) ts

-- How many parentheses are open with the symbols behind d open ones.
abbrev pub open_from : ℕ → List Symbol → ℕ
open_from d [] = d
open_from d (s ∷ ts) = open_from (opened s d) ts

-- How many names the symbols have, other than `empty`.
abbrev pub names_of : List Symbol → ℕ
names_of ts = names_from 0 ts

-- How many parentheses the symbols leave open.
abbrev pub open_of : List Symbol → ℕ
open_of ts = open_from 0 ts

-- The text before its token number i, counted from 0, is cut into symbols.
pub record Before (text : List ℕ) (i : ℕ) : Type 0 where
  pub symbols : List Symbol
  pub to : ℕ
  pub many : length symbols ≡ i
  pub cut : Cut text 0 symbols to

-- Behind the symbols that stand up to `to`, the token at p is misplaced: no pattern begins with the symbols and it, or, at
-- the end of the text, the symbols are no pattern.
pub data MisplacedAt (text : List ℕ) (ts : List Symbol) (to p : ℕ) : Type 0 where
  token : (s : Symbol) (q : ℕ) → SymbolAt text to s p q → (Begins (ts ++ s ∷ []) → ⊥) → MisplacedAt text ts to p
  at_end : EndAt text to → p ≡ length text → ((t : Tree) → grammar.Pattern ts t → ⊥) → MisplacedAt text ts to p

-- The rule of the fault is broken by the token number i of the text, which stands at the fault's place: the text has more
-- than 512 bytes (said of its first token); a byte of class 0; an unknown name; a misplaced token; the 32nd name; the
-- 17th open parenthesis.
abbrev pub Breaks : List ℕ → ℕ → PatternFault → Type 0
Breaks text i (Long p) = (i ≡ 0) × (512 < length text) × (p ≡ 512)
Breaks text i (Byte p) = (b : Before text i) × ByteAt text b.to Refused p
Breaks text i (Unknown p) = (b : Before text i) × (q : ℕ) × UnknownAt text b.to p q
Breaks text i (Misplaced p) = (b : Before text i) × MisplacedAt text b.symbols b.to p
Breaks text i (Names p) = (b : Before text i) × (l : Label) × (q : ℕ) × SymbolAt text b.to (Name l) p q × (names_of b.symbols ≡ 31)
Breaks text i (Nested p) = (b : Before text i) × (q : ℕ) × SymbolAt text b.to Open p q × (open_of b.symbols ≡ 16)

-- A rule broken by the token number i comes before one broken by the token number j: token by token from the left, and
-- for each token by the numbers of the faults.
abbrev pub Sooner : ℕ → PatternFault → ℕ → PatternFault → Type 0
Sooner i f j g = (i < j) ⊎ ((i ≡ j) × (pattern_number f < pattern_number g))

-- The first fault of the text: its rule is broken, and no rule is broken before it.
pub record FirstFault (text : List ℕ) (f : PatternFault) : Type 0 where
  pub token : ℕ
  pub breaks : Breaks text token f
  pub first : (j : ℕ) (g : PatternFault) → Breaks text j g → Sooner j g token f → ⊥

-- The text breaks no rule.
abbrev pub Unbroken : List ℕ → Type 0
Unbroken text = (i : ℕ) (f : PatternFault) → Breaks text i f → ⊥

-- The first fault of the text, as a fault of the pattern layer.
abbrev pub FaultOf : List ℕ → Fault → Type 0
FaultOf text (fault.Pattern f) = FirstFault text f
FaultOf text (fault.Plan f) = ⊥
FaultOf text (fault.Enquiry f) = ⊥

-- A text has at most one tree.
abbrev pub OneTree : Type 0
OneTree = (text : List ℕ) (t u : Tree) → Gives text t → Gives text u → t ≡ u

-- A text has at most one first fault, and none if it breaks no rule.
abbrev pub OneVerdict : Type 0
OneVerdict = ((text : List ℕ) (f g : PatternFault) → FirstFault text f → FirstFault text g → f ≡ g) × ((text : List ℕ) (f : PatternFault) → Unbroken text → FirstFault text f → ⊥)

-- The tokens of a pattern text: where each stands, and what it is.
use Rattle.std.specs.Prelude.{◌≡◌, ℕ, ◌+◌, ◌-◌, ◌<◌, ◌≤◌, cond, List, length, ◌==◌, ◌≢◌, slice_index, slice_range}
use Rattle.fault.specs.declared.PatternFault.{PatternFault}
use Rattle.fault.specs.declared.PatternFault.TheVariants as fault
use Rattle.grammar.specs.declared.Symbol.{Symbol}
use Rattle.grammar.specs.declared.Symbol.TheVariants as symbol
use Rattle.grammar.specs.declared.Times.TheVariants.{ZeroOrMore, OneOrMore, ZeroOrOne}
use Rattle.reader.specs.Classes.{class_of}
use Rattle.reader.specs.Words.{spelling, meaning}
use Rattle.reader.specs.declared.class.Class.{Class}
use Rattle.reader.specs.declared.class.Class.TheVariants.{Refused, Space, Small, Capital, Sign}
use Rattle.reader.specs.declared.word.Word.{Word}
use Rattle.reader.specs.declared.reader.Token.{Token}
use Rattle.reader.specs.declared.reader.Token.TheVariants.{Name, Lone, End}

-- Each byte from p up to q is of the class k.
abbrev pub AllOf : Class → List ℕ → ℕ → ℕ → Type 0
AllOf k text p q = (i : ℕ) → i < q → p ≤ i → class_of (slice_index text i) ≡ k

-- The bytes from p up to q.
abbrev pub part : List ℕ → ℕ → ℕ → List ℕ
part text p q = slice_range text p q

-- The symbol of a sign: ^ | * + ? ( and, the one that is left, ).
abbrev pub sign_of : ℕ → Symbol
sign_of b = cond (b == 94) symbol.Caret (cond (b == 124) symbol.Bar (cond (b == 42) (symbol.Repeat ZeroOrMore) (cond (b == 43) (symbol.Repeat OneOrMore) (cond (b == 63) (symbol.Repeat ZeroOrOne) (cond (b == 40) symbol.Open symbol.Close)))))

-- Behind the spaces from `from` on, a name stands from p up to q: the longest run of a to z.
pub record NameAt (text : List ℕ) (from p q : ℕ) : Type 0 where
  pub onward : from ≤ p
  pub spaces : AllOf Space text from p
  pub some : p < q
  pub inside : q ≤ length text
  pub run : AllOf Small text p q
  pub longest : q < length text → class_of (slice_index text q) ≢ Small

-- Behind the spaces from `from` on, a byte of the class k stands at p.
pub record ByteAt (text : List ℕ) (from : ℕ) (k : Class) (p : ℕ) : Type 0 where
  pub onward : from ≤ p
  pub spaces : AllOf Space text from p
  pub inside : p < length text
  pub class : class_of (slice_index text p) ≡ k

-- From `from` on there are only spaces.
pub record EndAt (text : List ℕ) (from : ℕ) : Type 0 where
  pub onward : from ≤ length text
  pub spaces : AllOf Space text from (length text)

-- Behind the spaces from `from` on, the symbol s is the one byte at p: a letter, by its number from 1, or a sign.
pub data LoneAt (text : List ℕ) (from : ℕ) (s : Symbol) (p q : ℕ) : Type 0 where
  letter : ByteAt text from Capital p → s ≡ symbol.Letter (slice_index text p - 64) → q ≡ p + 1 → LoneAt text from s p q
  sign : ByteAt text from Sign p → s ≡ sign_of (slice_index text p) → q ≡ p + 1 → LoneAt text from s p q

-- Behind the spaces from `from` on, the symbol s stands from p up to q.
pub data SymbolAt (text : List ℕ) (from : ℕ) (s : Symbol) (p q : ℕ) : Type 0 where
  named : (w : Word) → NameAt text from p q → spelling w ≡ part text p q → s ≡ meaning w → SymbolAt text from s p q
  lone : LoneAt text from s p q → SymbolAt text from s p q

-- Behind the spaces from `from` on, a name that is none of the words stands from p up to q.
pub record UnknownAt (text : List ℕ) (from p q : ℕ) : Type 0 where
  pub name : NameAt text from p q
  pub unknown : (w : Word) → spelling w ≢ part text p q

-- The token t stands from p up to q; the end stands at the end.
abbrev pub TokenAt : List ℕ → ℕ → Token → ℕ → ℕ → Type 0
TokenAt text from (Name s) p q = NameAt text from p q × (s.now ≡ part text p q)
TokenAt text from (Lone s) p q = LoneAt text from s p q
TokenAt text from End p q = EndAt text from × (p ≡ length text) × (q ≡ p)

-- A byte of class 0 is refused at its place.
abbrev pub RefusedAt : List ℕ → ℕ → PatternFault → Type 0
RefusedAt text from (fault.Byte p) = ByteAt text from Refused p
RefusedAt text from (fault.Long p) = ⊥
RefusedAt text from (fault.Unknown p) = ⊥
RefusedAt text from (fault.Misplaced p) = ⊥
RefusedAt text from (fault.Names p) = ⊥
RefusedAt text from (fault.Nested p) = ⊥

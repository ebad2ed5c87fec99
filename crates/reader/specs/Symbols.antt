-- The symbols of a pattern text, one after the other.
use Rattle.std.specs.Prelude.{◌≡◌, ℕ, List, [], ◌∷◌, length, Some, None, Option}
use Rattle.fault.specs.declared.PatternFault.{PatternFault}
use Rattle.fault.specs.declared.PatternFault.TheVariants.{Long, Byte, Unknown, Misplaced, Names, Nested}
use Rattle.grammar.specs.declared.Symbol.{Symbol}
use Rattle.reader.specs.Tokens.{ByteAt, EndAt, SymbolAt, UnknownAt}
use Rattle.reader.specs.declared.class.Class.TheVariants.{Refused}

-- Behind `from` the symbol stands from p up to q, or, where there is none, the end.
abbrev pub NextAt : List ℕ → ℕ → Option Symbol → ℕ → ℕ → Type 0
NextAt text from (Some s) p q = SymbolAt text from s p q
NextAt text from None p q = EndAt text from × (p ≡ length text) × (q ≡ p)

-- Behind `from` stands a byte of class 0, or a name that is none of the words.
abbrev pub TokenFault : List ℕ → ℕ → PatternFault → Type 0
TokenFault text from (Byte p) = ByteAt text from Refused p
TokenFault text from (Unknown p) = (q : ℕ) × UnknownAt text from p q
TokenFault text from (Long p) = ⊥
TokenFault text from (Misplaced p) = ⊥
TokenFault text from (Names p) = ⊥
TokenFault text from (Nested p) = ⊥

-- The text from `from` up to `to` is cut into the symbols.
abbrev pub Cut : List ℕ → ℕ → List Symbol → ℕ → Type 0
Cut text from [] to = from ≡ to
Cut text from (s ∷ ts) to = (p : ℕ) × (q : ℕ) × SymbolAt text from s p q × Cut text q ts to

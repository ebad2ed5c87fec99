-- The grammar in the form: from the symbols x a part is read, and r is left.
use Rattle.std.proofs.Common.{ℕ, List, ◌∷◌, None}
use Rattle.model.specs.declared.Label.{Label}
use Rattle.model.specs.Patterns.{Tree, name, empty, ◌then◌, ◌or◌}
use Rattle.model.specs.Records.{letter}
use Rattle.grammar.specs.declared.Times.{Times}
use Rattle.grammar.specs.Grammar.{repeated}
use Rattle.grammar.specs.declared.Symbol.{Symbol}
use Rattle.grammar.specs.declared.Symbol.TheVariants.{Name, Empty, Letter, Caret, Bar, Repeat, Open, Close}

mutual
  pub data AtomTo : List Symbol → List Symbol → Tree → Type 0 where
    kind : {r : List Symbol} (w : Label) → AtomTo (Name w ∷ r) r (name w None)
    nothing : {r : List Symbol} → AtomTo (Empty ∷ r) r empty
    marked : {r : List Symbol} (w : Label) (l : ℕ) → AtomTo (Name w ∷ Caret ∷ Letter l ∷ r) r (name w (letter l))
    group : {x r : List Symbol} {t : Tree} → PatternTo x (Close ∷ r) t → AtomTo (Open ∷ x) r t

  pub data ItemTo : List Symbol → List Symbol → Tree → Type 0 where
    plain : {x r : List Symbol} {t : Tree} → AtomTo x r t → ItemTo x r t
    times : {x r : List Symbol} {t : Tree} (s : Times) → AtomTo x (Repeat s ∷ r) t → ItemTo x r (repeated s t)

  pub data SequenceTo : List Symbol → List Symbol → Tree → Type 0 where
    single : {x r : List Symbol} {t : Tree} → ItemTo x r t → SequenceTo x r t
    more : {x y r : List Symbol} {t u : Tree} → SequenceTo x y t → ItemTo y r u → SequenceTo x r (t then u)

  pub data PatternTo : List Symbol → List Symbol → Tree → Type 0 where
    lone : {x r : List Symbol} {t : Tree} → SequenceTo x r t → PatternTo x r t
    another : {x y r : List Symbol} {t u : Tree} → PatternTo x (Bar ∷ y) t → SequenceTo y r u → PatternTo x r (t or u)

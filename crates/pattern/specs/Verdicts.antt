-- What reading a pattern text answers.
use Rattle.std.specs.Prelude.{ℕ, List, Result, MatchResult}
use Rattle.fault.specs.declared.PatternFault.{PatternFault}
use Rattle.model.specs.Patterns.{Tree}
use Rattle.automaton.specs.Tables.{Recognises}
use Rattle.automaton.specs.declared.Automaton.{Automaton}
use Rattle.pattern.specs.Texts.{Gives, Unbroken, FirstFault}

-- The text breaks no rule, and the automaton recognises the tree that it gives.
pub record Reading (text : List ℕ) (a : Automaton) : Type 0 where
  pub unbroken : Unbroken text
  pub tree : Tree
  pub gives : Gives text tree
  pub recognises : Recognises a tree

-- The automaton of the text, or its first fault.
abbrev pub Compiles : List ℕ → Result Automaton PatternFault → Type 0
Compiles text r = MatchResult r (Reading text) (FirstFault text)

-- What the parser holds, against the state of the machine that reads symbols.
use Rattle.std.specs.Prelude.{◌≡◌, ℕ, ◌+◌, ◌≤◌, List, length, Some, None, Option, Result, MatchResult, ◌≢◌}
use Rattle.fault.specs.declared.PatternFault.{PatternFault}
use Rattle.fault.specs.declared.PatternFault.TheVariants.{Long, Byte, Unknown, Misplaced, Names, Nested}
use Rattle.model.specs.Patterns.{Tree}
use Rattle.model.specs.declared.Label.{Label}
use Rattle.automaton.specs.Tables.{Compiled, Recognises}
use Rattle.automaton.specs.declared.Automaton.{Automaton}
use Rattle.automaton.specs.declared.Fragment.{Fragment}
use Rattle.grammar.specs.Machine as machine
use Rattle.grammar.specs.Machine.{joined, or_else, ready, begin, step_at, finish}
use Rattle.grammar.specs.declared.Symbol.{Symbol}
use Rattle.grammar.specs.declared.Symbol.TheVariants as symbol
use Rattle.pattern.specs.Parts.{Held, Last, OpenLevels, pending, Added}
use Rattle.pattern.specs.Texts.{counted}
use Rattle.pattern.specs.declared.levels.Level.{Level}
use Rattle.pattern.specs.declared.levels.Levels.{Levels}
use Rattle.pattern.specs.declared.parser.Mode.{Mode}
use Rattle.pattern.specs.declared.parser.Mode.TheVariants.{Due}
use Rattle.pattern.specs.declared.parser.Parser.{Parser}

-- The parts of a parser show the state of the machine, after n names.
pub record Shown (a : Automaton) (ls : Levels) (level : Level) (mode : Mode) (n : ℕ) (fs : List machine.Level) (b q : Option Tree) (m : machine.Mode) : Type 0 where
  pub lo : ℕ
  pub mid : ℕ
  pub hi : ℕ
  pub counted : n ≡ a.count + pending m
  pub few : n ≤ 31
  pub levels : OpenLevels a lo ls.held ls.depth fs
  pub sequences : Held a lo mid level.sequences b
  pub items : Held a mid hi level.items q
  pub last : Last a hi mode m

-- What may hold of a state of the machine after n names.
abbrev pub OfState : Type 1
OfState = ℕ → List machine.Level → Option Tree → Option Tree → machine.Mode → Type 0

-- The parser shows the state of the machine, after n names.
abbrev pub Shows : Parser → OfState
Shows p n fs b q m = Shown p.automaton p.levels p.level p.mode n fs b q m

-- The item that was read last, which the parser has let go.
pub record LetGo (before after : Parser) (f : Fragment) : Type 0 where
  pub due : after.mode ≡ Due
  pub levels : after.levels ≡ before.levels
  pub level : after.level ≡ before.level
  pub added : (lo : ℕ) (m : machine.Mode) → Last before.automaton lo before.mode m → (t : Tree) × (ready m ≡ Some t) × (after.automaton.count ≡ before.automaton.count + pending m) × Added before.automaton after.automaton lo f t

-- The item that is read, or that none is.
abbrev pub ItemRead : Parser → Parser → ℕ → Result Fragment PatternFault → Type 0
ItemRead before after place r =
    MatchResult r (LetGo before after) (λ e. (e ≡ Misplaced place) × ((lo : ℕ) (m : machine.Mode) → Last before.automaton lo before.mode m → ready m ≡ None))

-- The items with the one that is read: an atom may begin.
abbrev pub Settled : Parser → Parser → ℕ → Result (Unit {0}) PatternFault → Type 0
Settled before after place r =
    (n : ℕ) (fs : List machine.Level) (b q : Option Tree) (m : machine.Mode) → Shows before n fs b q m → MatchResult r (λ _. (u : Option Tree) × (begin q m ≡ Some u) × (after.mode ≡ Due) × Shows after n fs b u machine.due) (λ e. (e ≡ Misplaced place) × (begin q m ≡ None))

-- The fragment reads the whole tree since the innermost open level, and an atom is due.
pub record Whole (a : Automaton) (ls : Levels) (mode : Mode) (n : ℕ) (fs : List machine.Level) (f : Fragment) (t : Tree) : Type 0 where
  pub lo : ℕ
  pub below : lo ≤ a.count
  pub due : mode ≡ Due
  pub counted : n ≡ a.count
  pub few : n ≤ 31
  pub levels : OpenLevels a lo ls.held ls.depth fs
  pub compiled : Compiled a f lo a.count t

-- What is read since the innermost open level ends.
abbrev pub Closing : Parser → Parser → ℕ → Result Fragment PatternFault → Type 0
Closing before after place r =
    (n : ℕ) (fs : List machine.Level) (b q : Option Tree) (m : machine.Mode) → Shows before n fs b q m → MatchResult r (λ f. (t : Tree) × (ready m ≡ Some t) × Whole after.automaton after.levels after.mode n fs f (or_else b (joined q t))) (λ e. (e ≡ Misplaced place) × (ready m ≡ None))

-- The machine goes on by the symbol, to a state of which S holds.
pub record Goes (fs : List machine.Level) (b q : Option Tree) (m : machine.Mode) (s : Symbol) (n : ℕ) (S : OfState) : Type 0 where
  pub levels : List machine.Level
  pub sequences : Option Tree
  pub items : Option Tree
  pub last : machine.Mode
  pub step : step_at fs b q m s ≡ Some (machine.at levels sequences items last)
  pub shows : S (counted s n) levels sequences items last

-- Why the symbol is refused: the machine does not go on; it does, and the symbol is a name behind 31 others, or a
-- parenthesis behind 16 that are open.
abbrev pub Refuses : List machine.Level → Option Tree → Option Tree → machine.Mode → Symbol → ℕ → ℕ → PatternFault → Type 0
Refuses fs b q m s n place (Misplaced p) = (p ≡ place) × (step_at fs b q m s ≡ None)
Refuses fs b q m s n place (Names p) = (p ≡ place) × (step_at fs b q m s ≢ None) × (l : Label) × (s ≡ symbol.Name l) × (n ≡ 31)
Refuses fs b q m s n place (Nested p) = (p ≡ place) × (step_at fs b q m s ≢ None) × (s ≡ symbol.Open) × (length fs ≡ 16)
Refuses fs b q m s n place (Long p) = ⊥
Refuses fs b q m s n place (Byte p) = ⊥
Refuses fs b q m s n place (Unknown p) = ⊥

-- One symbol is taken, or refused.
abbrev pub Took : Parser → Symbol → ℕ → Result (Unit {0}) PatternFault → Parser → Type 0
Took before s place r after =
    (n : ℕ) (fs : List machine.Level) (b q : Option Tree) (m : machine.Mode) → Shows before n fs b q m → MatchResult r (λ _. Goes fs b q m s n (Shows after)) (Refuses fs b q m s n place)

-- At the end the automaton recognises the tree of the machine, if it has one.
abbrev pub Ended : Parser → ℕ → Result Automaton PatternFault → Type 0
Ended before place r =
    (n : ℕ) (fs : List machine.Level) (b q : Option Tree) (m : machine.Mode) → Shows before n fs b q m → MatchResult r (λ a. (t : Tree) × (finish (machine.at fs b q m) ≡ Some t) × Recognises a t) (λ e. (e ≡ Misplaced place) × (finish (machine.at fs b q m) ≡ None))

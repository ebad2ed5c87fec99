-- The words that a pattern reads.
use Rattle.std.specs.Prelude.{◌≡◌, ℕ, ◌⊎◌, List, [], ◌∷◌, ◌++◌}
use Rattle.model.specs.Patterns.{Tree, name, empty, ◌then◌, ◌or◌, star, plus, maybe, Fits}
use Rattle.model.specs.Records.{mark_word}

-- One passage as a pattern sees it: its kind, and the mark that it is collected under (0 none, 1 to 8 A to H).
abbrev pub Pair : Type 0
Pair = ℕ × ℕ

-- The passages of a route as a pattern sees them, in turn.
abbrev pub Word : Type 0
Word = List Pair

-- A list is a join of zero or more lists of P.
pub data Many {A : Type 0} (P : List A → Type 0) : List A → Type 0 where
  none : Many P []
  more : {u v : List A} → P u → Many P v → Many P (u ++ v)

-- A list is a list of P and then a list of Q.
abbrev pub Chained : {A : Type 0} → (List A → Type 0) → (List A → Type 0) → List A → Type 0
Chained {A} P Q w = (u : List A) × (v : List A) × (w ≡ u ++ v) × P u × Q v

-- A pattern reads a word: a name reads one pair that fits its label and has its mark, and the other forms read as they
-- are said.
abbrev pub Reads : Tree → Word → Type 0
Reads (name l m) w = (x : Pair) × (w ≡ x ∷ []) × Fits l x.0 × (x.1 ≡ mark_word m)
Reads empty w = w ≡ []
Reads (p then q) w = Chained (Reads p) (Reads q) w
Reads (p or q) w = Reads p w ⊎ Reads q w
Reads (star p) w = Many (Reads p) w
Reads (plus p) w = Chained (Reads p) (Many (Reads p)) w
Reads (maybe p) w = (w ≡ []) ⊎ Reads p w

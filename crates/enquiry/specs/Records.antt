-- A route as words.
use Rattle.std.specs.Prelude.{ℕ, List, [], ◌∷◌, length}
use Rattle.route.specs.Tracks.{Taken, Track}

-- the words of the steps, oldest first, and then v
abbrev pub words_on : List Taken → List ℕ → List ℕ
words_on [] v = v
words_on (x ∷ xs) v = words_on xs (x.passage ∷ x.zone ∷ x.mark ∷ v)

abbrev pub record_on : Track → List ℕ → List ℕ
record_on s v = length s.steps ∷ s.start ∷ words_on s.steps v

-- How far a route has come, as a number.
use Rattle.std.specs.Prelude.{ℕ, zero, suc, ◌+◌, ◌*◌, ◌^◌, ◌<◌, List, [], ◌∷◌}
use Rattle.search.specs.Spaces.{Code}

abbrev pub digit : Code → ℕ
digit c = 1 + 9 * c.passage + c.mark

unfoldable pub rank : ℕ → List Code → ℕ
rank zero u = 0
rank (suc n) [] = 0
rank (suc n) (c ∷ u) = digit c * 2305 ^ n + rank n u

abbrev pub Low : List Code → Type 0
Low [] = Unit {0}
Low (c ∷ u) = (c.passage < 256) × (c.mark < 9) × Low u

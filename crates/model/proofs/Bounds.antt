-- The bounds of a plan, for a passage that it has.
use Rattle.std.proofs.Common.{◌≡◌, ℕ, ◌<◌, Some, Option, subst}
use Rattle.model.specs.Plans.{PlanMeaning, Passage, BoundsBy}

pub bounds : (pl : PlanMeaning) (p : ℕ) (e : Passage) → pl.passage p ≡ Some e → BoundsBy pl.zones p (Some e)
bounds pl p e h = let P : Option Passage → Type 0 = λ o. BoundsBy pl.zones p o in subst P h (pl.bounded p)

pub numbered : (pl : PlanMeaning) (p : ℕ) (e : Passage) → pl.passage p ≡ Some e → p < 256
numbered pl p e h = (bounds pl p e h).0

pub within : (pl : PlanMeaning) (p : ℕ) (e : Passage) → pl.passage p ≡ Some e → (e.origin < pl.zones) × (e.destination < pl.zones) × (e.kind < 8)
within pl p e h = let b = bounds pl p e h in (b.1, b.2, b.3)

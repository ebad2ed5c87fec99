-- The owner of a body lies where a search that halves the zones looks for it.
use Rattle.std.proofs.Common.{ℕ, ◌<◌, ◌≤◌, List, arith}
use native.Mathlib.Decide.{dec_lt}
use Rattle.plan.specs.Filed.{zone_count_of, entry_of, owner_below}
use Rattle.plan.specs.FiledFacts.{Kept, entry_rises, owned}

pub owner_low : (b : List ℕ) → Kept b → (i : ℕ) → owner_below b i (zone_count_of b) < zone_count_of b
owner_low b k i = (owned b k i (zone_count_of b) k.frame.some_zone).below

pub owner_from : (b : List ℕ) → Kept b → (i z : ℕ) → z < zone_count_of b → entry_of b z ≤ i → z ≤ owner_below b i (zone_count_of b)
owner_from b k i z l h =
    let o = owned b k i (zone_count_of b) k.frame.some_zone in
    elim (dec_lt (owner_below b i (zone_count_of b)) z) [
      | yes x ↦ absurd (let p = o.past z x l in omega (arith, h, p))
      | no x ↦ omega arith
    ]

pub owner_under : (b : List ℕ) → Kept b → (i z : ℕ) → z < zone_count_of b → i < entry_of b z → owner_below b i (zone_count_of b) < z
owner_under b k i z l h =
    let o = owned b k i (zone_count_of b) k.frame.some_zone in
    elim (dec_lt (owner_below b i (zone_count_of b)) z) [
      | yes x ↦ x
      | no x ↦ absurd (let p = entry_rises b k z (owner_below b i (zone_count_of b)) (omega arith) o.below in omega (arith, h, p, o.starts))
    ]

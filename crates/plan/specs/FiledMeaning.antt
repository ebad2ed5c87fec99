-- The meaning of a file in which there is no fault.
use Rattle.std.specs.Prelude.{◌≡◌, ℕ, ◌<◌, Bool, true, false, cond, List, Some, None, Option, nat_lt, refl}
use Rattle.std.proofs.Common.{arith, ltb-true}
use Rattle.model.specs.Plans.{PlanMeaning, BoundsBy}
use Rattle.plan.specs.Filed.{zone_count_of, count_of, body_below_lem, passage_by, filed_passage, accepted}
use Rattle.plan.specs.FiledFacts.{Kept, kept, body_of, owned}

pub filed_within : (b : List ℕ) → Kept b → (n : ℕ) → BoundsBy (zone_count_of b) n (filed_passage b n)
filed_within b k n = go (nat_lt n 256) refl
  where
    at : n < 256 → (o : Option ℕ) → body_below_lem b n (count_of b) ≡ o → BoundsBy (zone_count_of b) n (passage_by b o)
    at l (Some i) e =
        let y = body_of b n (count_of b) i (omega arith) e in
        let g = (k.bodies i y.below).kind in
        (l, (owned b k i (zone_count_of b) k.frame.some_zone).below, (k.bodies i y.below).inside, omega (arith, g))
    at l None e = tt

    go : (t : Bool) → nat_lt n 256 ≡ t → BoundsBy (zone_count_of b) n (cond t (passage_by b (body_below_lem b n (count_of b))) None)
    go true e = at (ltb-true n 256 e) (body_below_lem b n (count_of b)) refl
    go false e = tt

abbrev pub filed : (b : List ℕ) → accepted b ≡ true → PlanMeaning
filed b e = record { zones = zone_count_of b; passage = filed_passage b; some_zone = (kept b e).frame.some_zone; few_zones = (kept b e).frame.few_zones; bounded = filed_within b (kept b e) }

-- The bounds of a plan at their edges, and what leaves the zones of floor E.
use Rattle.std.proofs.Common.{◌≡◌, ℕ, ◌<◌, ◌≤◌, Bool, true, false, cond, not, ◌&&◌, ◌||◌, T, eqb, ltb, leb, List, [], ◌∷◌, Some, None, Option, sym, refl, subst, ⊎_elim, arith, lit<, lit≤, eqb→eq, ltb→lt, leb→le, T_not}
use lib.Dec.{eqb_refl}
use lib.Ieee.Fits.{and_l, and_r}
use Rattle.model.specs.Plans.{PlanMeaning, Passage, BoundsBy, LeavesBy, Leaves, LeastLeaving}
use Rattle.model.specs.Examples.{Numbered, named, plan_of, floor_e, floor_e_passages}
use Rattle.model.specs.Edges.{BoundsAre, AllLeave, departures_e, Edges}
use Rattle.model.proofs.Bools.{or_cases}

bounds_are : BoundsAre
bounds_are = record {
  most_zones = (plan_of 64 (lit≤ tt) (lit≤ tt) [] tt, refl);
  no_65_zones = λ pl e. let h = pl.few_zones in omega arith;
  no_0_zones = λ pl e. let h = pl.some_zone in omega arith;
  last = (lit< tt, lit< tt, lit< tt, lit< tt);
  no_256 = λ h. let k : 256 < 256 = h.0 in omega arith;
  no_origin_2 = λ h. let k : 2 < 2 = h.1 in omega arith;
  no_destination_2 = λ h. let k : 2 < 2 = h.2 in omega arith;
  no_kind_8 = λ h. let k : 8 < 8 = h.3 in omega arith;
}

-- no passage of the list leaves the zone with a number from lo up to hi
abbrev clear_of : Numbered → ℕ → ℕ → ℕ → Bool
clear_of e zone lo hi = not (eqb e.is.origin zone) || (ltb e.number lo || leb hi e.number)

abbrev clear : List Numbered → ℕ → ℕ → ℕ → Bool
clear [] zone lo hi = true
clear (e ∷ es) zone lo hi = clear_of e zone lo hi && clear es zone lo hi

clear_here : (e : Numbered) (zone lo hi k : ℕ) → T (clear_of e zone lo hi) → lo ≤ k → k < hi → k ≡ e.number → e.is.origin ≡ zone → ⊥
clear_here e zone lo hi k t a b i o = ⊎_elim
    (λ (u : T (not (eqb e.is.origin zone))). T_not (eqb e.is.origin zone) u (let P : ℕ → Type 0 = λ x. T (eqb e.is.origin x) in subst P o (eqb_refl e.is.origin)))
    (λ (u : T (ltb e.number lo || leb hi e.number)). ⊎_elim
    (λ (v : T (ltb e.number lo)). let w = ltb→lt e.number lo v in below w)
    (λ (v : T (leb hi e.number)). let w = leb→le hi e.number v in above w)
    (or_cases (ltb e.number lo) (leb hi e.number) u))
    (or_cases (not (eqb e.is.origin zone)) (ltb e.number lo || leb hi e.number) t)
  where
    below : e.number < lo → ⊥
    below w = omega arith

    above : hi ≤ e.number → ⊥
    above w = omega arith

none_leaves : (es : List Numbered) (zone lo hi k : ℕ) → T (clear es zone lo hi) → lo ≤ k → k < hi → Leaves (named es) zone k → ⊥
none_leaves [] zone lo hi k t a b l = l
none_leaves (e ∷ es) zone lo hi k t a b l = go (eqb k e.number) refl l (λ m. none_leaves es zone lo hi k (and_r (clear_of e zone lo hi) (clear es zone lo hi) t) a b m)
  where
    B : Bool → Type 0
    B c = T c

    go : (c : Bool) → eqb k e.number ≡ c → LeavesBy (cond c (Some e.is) (named es k)) zone → (LeavesBy (named es k) zone → ⊥) → ⊥
    go true i m f = clear_here e zone lo hi k (and_l (clear_of e zone lo hi) (clear es zone lo hi) t) a b (eqb→eq k e.number (subst B (sym i) tt)) m
    go false i m f = f m

-- a passage that leaves has a number below 256
leaves_low : (pl : PlanMeaning) (zone k : ℕ) → Leaves pl.passage zone k → k < 256
leaves_low pl zone k l = go (pl.passage k) (pl.bounded k) l
  where
    go : (o : Option Passage) → BoundsBy pl.zones k o → LeavesBy o zone → k < 256
    go (Some p) b m = b.0
    go None b m = absurd m

leaves_first : (zone from n : ℕ) → from ≤ n → Leaves floor_e.passage zone n → T (clear floor_e_passages zone from n) → LeastLeaving floor_e.passage zone from (Some n)
leaves_first zone from n h l t = (h, l, λ k a b. none_leaves floor_e_passages zone from n k t a b)

leaves_none : (zone from : ℕ) → T (clear floor_e_passages zone from 256) → LeastLeaving floor_e.passage zone from None
leaves_none zone from t k a l = none_leaves floor_e_passages zone from 256 k t a (leaves_low floor_e zone k l) l

departures : AllLeave floor_e departures_e
departures = (leaves_first 0 0 0 (lit≤ tt) refl tt, (leaves_first 0 1 1 (lit≤ tt) refl tt, (leaves_none 0 2 tt, (leaves_first 1 0 2 (lit≤ tt) refl tt, (leaves_first 1 3 4 (lit≤ tt) refl tt, (leaves_first 2 0 3 (lit≤ tt) refl tt, (leaves_none 3 0 tt, (leaves_none 4 0 tt, tt))))))))

pub edges : Edges
edges = record { bounds_are = bounds_are; departures = departures; passage_4 = refl; passage_5 = refl }

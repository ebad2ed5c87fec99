-- A delivery brings an enquiry nearer to its end.
use Rattle.std.proofs.Common.{◌≡◌, ℕ, ◌+◌, ◌-◌, ◌^◌, ◌<◌, ◌≤◌, Bool, true, false, cond, List, [], ◌∷◌, length, refl, ◌∙◌, arith}
use Rattle.model.specs.Plans.{PlanMeaning}
use Rattle.model.specs.Rules.{RuleMeaning}
use Rattle.automaton.specs.declared.Automaton.{Automaton}
use Rattle.route.specs.Tracks.{Taken}
use Rattle.search.specs.Spaces.{Code, Earlier}
use Rattle.search.specs.Listings.{StandingOn, code_of, codes_on, route_at}
use Rattle.search.specs.Hunts.{space_of}
use Rattle.bridge.proofs.Walk.{reach_bounds}
use Rattle.listing.specs.Rank.{rank, Low}
use Rattle.listing.proofs.Ranks.{rank_low, rank_up}

module _ (pl : PlanMeaning) (ru : RuleMeaning) (a : Automaton) (target most z : ℕ) where
  low_on : (xs : List Taken) (v : List Code) → StandingOn (space_of pl ru a target most) z xs → Low v → Low (codes_on xs v)
  low_on [] v s l = l
  low_on (x ∷ xs) v s l = let b = reach_bounds pl ru a target most (route_at z xs) (code_of x) _ s.1 in low_on xs (code_of x ∷ v) s.0 (b.0, b.1, l)

  long_on : (xs : List Taken) (v : List Code) → length (codes_on xs v) ≡ length xs + length v
  long_on [] v = omega arith
  long_on (x ∷ xs) v = long_on xs (code_of x ∷ v) ∙ omega arith

  short_on : (xs : List Taken) → StandingOn (space_of pl ru a target most) z xs → length xs ≤ most
  short_on [] s = omega arith
  short_on (x ∷ xs) s = omega (arith, (reach_bounds pl ru a target most (route_at z xs) (code_of x) _ s.1).2)

pub low_codes : (pl : PlanMeaning) (ru : RuleMeaning) (a : Automaton) (target most z : ℕ) (xs : List Taken) → StandingOn (space_of pl ru a target most) z xs → Low (codes_on xs [])
low_codes pl ru a target most z xs s = low_on pl ru a target most z xs [] s tt

pub short_codes : (pl : PlanMeaning) (ru : RuleMeaning) (a : Automaton) (target most z : ℕ) (xs : List Taken) → most ≤ 256 → StandingOn (space_of pl ru a target most) z xs → length (codes_on xs []) ≤ 256
short_codes pl ru a target most z xs h s = omega (arith, long_on pl ru a target most z xs [], short_on pl ru a target most z xs s)

abbrev pub placed : Bool → List Code → ℕ
placed b u = cond b (1 + rank 256 u) 0

fall : (x r s : ℕ) → r < s → s < x → x + 1 - (1 + s) < x + 1 - (1 + r)
fall x r s a b = omega arith

fall_front : (x s : ℕ) → s < x → x + 1 - (1 + s) < x + 1 - 0
fall_front x s b = omega arith

-- u before, w after a delivery; the power stays a variable, since omega refuses numbers of more than 154 digits
pub falls : (b : Bool) (u w : List Code) → Low u → Low w → length u ≤ 256 → length w ≤ 256 → (b ≡ true → Earlier u w) → 2305 ^ 256 + 1 - placed true w < 2305 ^ 256 + 1 - placed b u
falls true u w l m h k e = fall (2305 ^ 256) (rank 256 u) (rank 256 w) (rank_up 256 u w l m h k (e refl)) (rank_low 256 w m k)
falls false u w l m h k e = fall_front (2305 ^ 256) (rank 256 w) (rank_low 256 w m k)

-- The two laws of the rules of one's own.
use Rattle.std.specs.Prelude.{ℕ, ◌≤◌, Bool, true, false, ◌&&◌, T, List, [], ◌∷◌, length, refl}
use Rattle.std.proofs.Common.{arith}
use Rattle.model.specs.Routes.{Step, Route}
use Rattle.model.specs.Rules.{Allowed, KeepsLaws, trail}
use Rattle.model.proofs.RuleLaws.{restrictors}
use Rattle.route_tests.specs.Own.{nowhere, lifts_early}

-- only a route of no step is allowed
no_step : (v : ℕ) (ss : List Step) → Allowed nowhere (record { start = v; steps = ss }) → length ss ≤ 0
no_step v [] a = omega arith
no_step v (s ∷ ss) a = absurd (a [] ss s refl)

pub nowhere_keeps : KeepsLaws nowhere
nowhere_keeps = record {
  no_passage_twice = λ r p a i j l h e. let n = no_step r.start r.steps a in omega arith;
  no_longer = λ r p a. no_step r.start r.steps a;
}

both_left : (a b : Bool) → T (a && b) → T a
both_left true b t = tt
both_left false b t = absurd t

-- what it allows, trail allows
is_trail : (r : Route) → Allowed lifts_early r → Allowed trail r
is_trail r a before after s e = both_left _ _ (a before after s e)

pub lifts_early_keeps : KeepsLaws lifts_early
lifts_early_keeps = record {
  no_passage_twice = λ r p a. restrictors.trail_keeps.no_passage_twice r p (is_trail r a);
  no_longer = λ r p a. let h = restrictors.trail_keeps.no_longer r p (is_trail r a) in omega arith;
}

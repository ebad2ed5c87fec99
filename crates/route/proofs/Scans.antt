-- A scan of the first n steps for a number.
use Rattle.std.proofs.Common.{◌≡◌, ℕ, zero, suc, ◌≤◌, Bool, ◌||◌, eqb, nat_eq, List, [], ◌∷◌, ◌++◌, map, take, length, get_or, sym, refl, ap, ◌∙◌, arith, rules}
use Rattle.std.specs.List.{list_any}
use Rattle.std.proofs.Math.Seq.{take-suc}
use Rattle.std.proofs.lemmas.List.{map-append}
use Rattle.model.specs.Routes.{Step, passages}
use Rattle.model.specs.Rules.{mem}
use Rattle.route.specs.Reading.{step_at, steps_of, route_of, reached_zones}
use Rattle.route.specs.declared.Route.{Route}

any_mem : (p : ℕ) (xs : List ℕ) → list_any (λ y. nat_eq y p) xs ≡ mem p xs
any_mem p [] = refl
any_mem p (x ∷ xs) = ap (λ (b : Bool). b || list_any (λ y. nat_eq y p) xs) (search rules) ∙ ap (λ (b : Bool). eqb p x || b) (any_mem p xs)

-- one number of each of the first n steps is the front of a row
front : (f : Step → ℕ) (row : List ℕ) (r : Route) → ((i : ℕ) → f (step_at r i) ≡ get_or row i 0) → (n : ℕ) → n ≤ length row → map f (steps_of (step_at r) n) ≡ take n row
unfolding steps_of
front f row r is zero h = refl
front f row r is (suc n) h =
    map-append f (steps_of (step_at r) n) (step_at r n ∷ [])
    ∙ ap (λ (xs : List ℕ). xs ++ (f (step_at r n) ∷ [])) (front f row r is n (omega arith))
    ∙ ap (λ (x : ℕ). take n row ++ (x ∷ [])) (is n)
    ∙ sym (take-suc row n 0 (omega arith))

-- whether the record has a number in its row of passages, or of zones, is whether the route has it
pub used : (r : Route) (p : ℕ) → r.len ≤ length r.passages → list_any (λ y. nat_eq y p) (take r.len r.passages) ≡ mem p (passages (route_of r))
used r p h = any_mem p (take r.len r.passages) ∙ ap (mem p) (sym (front (λ (s : Step). s.number) r.passages r (λ i. refl) r.len h))

pub reached : (r : Route) (z : ℕ) → r.len ≤ length r.zones → list_any (λ y. nat_eq y z) (take r.len r.zones) ≡ mem z (reached_zones (route_of r).steps)
reached r z h = any_mem z (take r.len r.zones) ∙ ap (mem z) (sym (front (λ (s : Step). s.reached) r.zones r (λ i. refl) r.len h))

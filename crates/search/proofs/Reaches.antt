-- What a step reaches, from the triple that the plan answers.
use Rattle.std.proofs.Common.{◌≡◌, ℕ, ◌+◌, ◌<◌, ◌≤◌, Bool, true, false, cond, not, ◌&&◌, eqb, ltb, ◌≢◌, ◌⊎◌, List, [], ◌∷◌, length, Some, None, Option, sym, refl, ap, ◌∙◌, subst, inl, inr, ⊎_elim, arith, ltb-true, eqb-true}
use borrow.Author.Tests.{clash}
use Rattle.model.specs.Plans.{Passage, PlanMeaning, triple, Leaves, LeavesBy}
use Rattle.model.specs.Rules.{RuleMeaning}
use Rattle.route.specs.Tracks.{Track, bare, last_zone, last_mask}
use Rattle.search.specs.Spaces.{Code, Goal, Before, Marks, Onward, Between, Under, Nothing, Sought}
use Rattle.search.proofs.Searches.{answer_none, by_order, lower, same, higher, settle, nothing_join}
use Rattle.automaton.specs.Step.{stepped}
use Rattle.search.specs.Hunts.{first_mask, space_of, reach_by, judged}
use Rattle.automaton.specs.declared.Automaton.{Automaton}

pub reach_some : (ru : RuleMeaning) (a : Automaton) (most : ℕ) (s : Track) (c : Code) (o : Option Passage) (from to kind : ℕ) →
    triple o ≡ Some (from, to, kind) → reach_by ru a most s c o ≡ judged ru a most s c from to kind
reach_some ru a most s c (Some p) from to kind e =
    let f : Option (ℕ × ℕ × ℕ) → Option (ℕ × ℕ) = elim [ Some x ↦ judged ru a most s c x.0 x.1 x.2 | None ↦ None ] in ap f e
reach_some ru a most s c None from to kind e =
    let f : Option (ℕ × ℕ × ℕ) → Option (ℕ × ℕ) = elim [ Some x ↦ judged ru a most s c x.0 x.1 x.2 | None ↦ None ] in ap f e

pub reach_none : (ru : RuleMeaning) (a : Automaton) (most : ℕ) (s : Track) (c : Code) (o : Option Passage) →
    triple o ≡ None → reach_by ru a most s c o ≡ None
reach_none ru a most s c (Some p) e =
    let f : Option (ℕ × ℕ × ℕ) → Option (ℕ × ℕ) = elim [ Some x ↦ judged ru a most s c x.0 x.1 x.2 | None ↦ None ] in ap f e
reach_none ru a most s c None e = refl

pub reach_read : (ru : RuleMeaning) (a : Automaton) (most : ℕ) (s : Track) (c : Code) (o : Option Passage) (from to kind here was k long : ℕ) (ok b : Bool) →
    triple o ≡ Some (from, to, kind) → here ≡ last_zone s.start s.steps → was ≡ last_mask first_mask s.steps → k ≡ stepped a was kind c.mark → long ≡ length s.steps → ok ≡ ru.permits (bare s) c.passage to →
    ((((eqb from here && ltb c.mark 9) && ltb long (most)) && not (eqb k 0)) && ok) ≡ b →
    cond b (Some (to, k)) None ≡ reach_by ru a most s c o
reach_read ru a most s c o from to kind here was k long ok b e h w ks l p t =
    let j = reach_some ru a most s c o from to kind e in
    let r : cond b (Some (to, k)) None ≡ judged ru a most s c from to kind = cc in
    r ∙ sym j

both_left : (a b : Bool) → (a && b) ≡ true → a ≡ true
both_left true b e = refl
both_left false b e = e

both_right : (a b : Bool) → (a && b) ≡ true → b ≡ true
both_right true b e = e
both_right false b e = absurd (clash e)

cond_some : (b : Bool) (x y : ℕ × ℕ) → cond b (Some x) None ≡ Some y → b ≡ true
cond_some true x y e = refl
cond_some false x y e = let f : Option (ℕ × ℕ) → Bool = elim [ Some x ↦ true | None ↦ false ] in ap f e

-- what a step that may be added has
pub record Open (m : PlanMeaning) (most : ℕ) (s : Track) (c : Code) : Type 0 where
  pub leaves : Leaves m.passage (last_zone s.start s.steps) c.passage
  pub mark : c.mark < 9
  pub room : length s.steps < most

open_by : (ru : RuleMeaning) (a : Automaton) (most : ℕ) (s : Track) (c : Code) (o : Option Passage) (x : ℕ × ℕ) → reach_by ru a most s c o ≡ Some x →
    LeavesBy o (last_zone s.start s.steps) × (c.mark < 9) × (length s.steps < most)
open_by ru a most s c (Some p) x e =
    let t = cond_some _ _ _ e in
    let t3 = both_left _ _ (both_left _ _ t) in
    (eqb-true _ _ (both_left _ _ (both_left _ _ t3)), ltb-true _ _ (both_right _ _ (both_left _ _ t3)), ltb-true _ _ (both_right _ _ t3))
open_by ru a most s c None x e = absurd (clash (let f : Option (ℕ × ℕ) → Bool = elim [ Some x ↦ true | None ↦ false ] in ap f e))

pub reach_open : (m : PlanMeaning) (ru : RuleMeaning) (a : Automaton) (target most : ℕ) (s : Track) (c : Code) (x : ℕ × ℕ) → (space_of m ru a target most).reach s c ≡ Some x → Open m most s c
unfolding space_of
reach_open m ru a target most s c x e =
    let h = open_by ru a most s c (m.passage c.passage) x e in record { leaves = h.0; mark = h.1; room = h.2 }

pub answer_open : (m : PlanMeaning) (ru : RuleMeaning) (a : Automaton) (target most : ℕ) (s : Track) (c : Code) (u : List Code) → Goal (space_of m ru a target most) s (c ∷ u) → Open m most s c
answer_open m ru a target most s c u h = go ((space_of m ru a target most).reach s c) refl
  where
    go : (o : Option (ℕ × ℕ)) → (space_of m ru a target most).reach s c ≡ o → Open m most s c
    go (Some x) e = reach_open m ru a target most s c x e
    go None e = absurd (answer_none (space_of m ru a target most) s c u e h)

module _ (m : PlanMeaning) (ru : RuleMeaning) (a : Automaton) (target most : ℕ) (s : Track) where
  pub marks_end : (p from mark : ℕ) → 9 ≤ mark → Nothing (space_of m ru a target most) s (Between p from mark) → Nothing (space_of m ru a target most) s (Marks p from)
  marks_end p from mark l n [] b h = b
  marks_end p from mark l n (c ∷ u) b h =
      let o = answer_open m ru a target most s c u h in
      n (c ∷ u) (b.0, b.1, omega (arith, o.mark)) h

  -- no passage from next on and below found leaves
  skipped : (p k next found : ℕ) → Nothing (space_of m ru a target most) s (Under p k next) →
      ((n : ℕ) → next ≤ n → n < found → Leaves m.passage (last_zone s.start s.steps) n → ⊥) → Nothing (space_of m ru a target most) s (Under p k found)
  skipped p k next found n l [] b h = b
  skipped p k next found n l (c ∷ u) b h =
      let o = answer_open m ru a target most s c u h in
      elim (by_order c.passage next) [
        | lower x ↦ n (c ∷ u) (b.0, x) h
        | same x ↦ l c.passage (omega arith) b.1 o.leaves
        | higher x ↦ l c.passage (omega arith) b.1 o.leaves
      ]

  -- no passage from next on leaves
  pub seek_end : (p k next : ℕ) → Nothing (space_of m ru a target most) s (Under p k next) →
      ((n : ℕ) → next ≤ n → Leaves m.passage (last_zone s.start s.steps) n → ⊥) → Nothing (space_of m ru a target most) s (Onward p k)
  seek_end p k next n l [] b h = b
  seek_end p k next n l (c ∷ u) b h =
      let o = answer_open m ru a target most s c u h in
      elim (by_order c.passage next) [
        | lower x ↦ n (c ∷ u) (b, x) h
        | same x ↦ l c.passage (omega arith) o.leaves
        | higher x ↦ l c.passage (omega arith) o.leaves
      ]

  pub seek_found : (p k next found from : ℕ) (e : Track) → p ≤ found → Nothing (space_of m ru a target most) s (Under p k next) →
      ((n : ℕ) → next ≤ n → n < found → Leaves m.passage (last_zone s.start s.steps) n → ⊥) →
      ((found ≡ p) × (from ≡ k)) ⊎ ((found ≢ p) × (from ≡ 0)) →
      Sought (space_of m ru a target most) s (Marks found from) true e → Sought (space_of m ru a target most) s (Onward p k) true e
  seek_found p k next found from e le n l w h =
      settle (space_of m ru a target most) s (Under p k found) (Marks found from) (Onward p k) e (skipped p k next found n l) h sub split
    where
      sub : (c : Code) → Marks found from c → Onward p k c
      sub c y = ⊎_elim (λ x. inr (omega (arith, y.0, y.1))) (λ x. inl (omega (arith, y.0, x.0))) w

      split : (c y : Code) → Marks found from c → Onward p k y → Under p k found y ⊎ (Marks found from y ⊎ Before c y)
      split c y o b = elim (by_order y.passage found) [ lower x ↦ inl (b, x) | same x ↦ inr (inl (x, omega (arith, w, b))) | higher x ↦ inr (inr (inl (omega (arith, o.0)))) ]

  pub seek_on : (p k next found from : ℕ) → p ≤ found → Nothing (space_of m ru a target most) s (Under p k next) →
      ((n : ℕ) → next ≤ n → n < found → Leaves m.passage (last_zone s.start s.steps) n → ⊥) →
      ((found ≡ p) × (from ≡ k)) ⊎ ((found ≢ p) × (from ≡ 0)) →
      Nothing (space_of m ru a target most) s (Marks found from) → Nothing (space_of m ru a target most) s (Under p k (found + 1))
  seek_on p k next found from le n l w h =
      nothing_join (space_of m ru a target most) s (Under p k found) (Marks found from) (Under p k (found + 1)) (skipped p k next found n l) h split
    where
      split : (y : Code) → Under p k (found + 1) y → Under p k found y ⊎ Marks found from y
      split y b = elim (by_order y.passage found) [ lower x ↦ inl (b.0, x) | same x ↦ inr (x, omega (arith, w, b.0)) | higher x ↦ absurd (omega (arith, b.1)) ]

pub leaves_at : (m : PlanMeaning) (z y n : ℕ) → z ≡ y → Leaves m.passage y n → Leaves m.passage z n
leaves_at m z y n e h = subst (λ (x : ℕ). Leaves m.passage x n) (sym e) h

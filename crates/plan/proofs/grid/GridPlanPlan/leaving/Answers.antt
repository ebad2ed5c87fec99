use Rattle.std.proofs.Common.{◌≡◌, ℕ, ◌+◌, ◌*◌, ◌/◌, ◌<◌, ◌≤◌, max, true, false, is_some, Some, None, Option, rules, arith, subst, sym}
use Rattle.std.proofs.lemmas.Iterator.{first_from_Range}
use Rattle.std.specs.Option.{MatchOption}
use Rattle.model.specs.Plans.{Passage, Leaves, LeavesBy, LeastLeaving, triple}
use Rattle.plan.specs.Grid.{grid_passage}
use Rattle.plan.proofs.grid.GridPlanPlan.leaving.Goals as goal

none_leaves : (o : Option Passage) (z : ℕ) → is_some (triple o) ≡ false → LeavesBy o z → ⊥
none_leaves (Some p) z e h = cc
none_leaves None z e h = h

-- the four passages of a cell are the ones that leave it
left : (rows columns z k : ℕ) → Leaves (grid_passage rows columns) z k → k / 4 ≡ z
left rows columns z k h = search rules

leaves : (rows columns z k : ℕ) → is_some (triple (grid_passage rows columns k)) ≡ true → k / 4 ≡ z → Leaves (grid_passage rows columns) z k
leaves rows columns z k e q = search rules

least : (rows columns z from low : ℕ) (o : Option ℕ) → low ≡ max (4 * z) from
    → MatchOption o ((k : ℕ) → low ≤ k → k < 4 * z + 4 → is_some (triple (grid_passage rows columns k)) ≡ false)
    (λ i. (low ≤ i) × (i < 4 * z + 4) × (is_some (triple (grid_passage rows columns i)) ≡ true) × ((k : ℕ) → low ≤ k → k < i → is_some (triple (grid_passage rows columns k)) ≡ false))
    → LeastLeaving (grid_passage rows columns) z from o
least rows columns z from low (Some i) m h = (
  omega arith,
  leaves rows columns z i h.2 (omega arith),
  λ k l n p. let q = left rows columns z k p in none_leaves (grid_passage rows columns k) z (h.3 k (omega arith) n) p,
)
least rows columns z from low None m h = λ k l p. let q = left rows columns z k p in none_leaves (grid_passage rows columns k) z (h k (omega arith) (omega arith)) p

pub returns : goal.returns
returns c =
    let rows = c.args.self.now.rows in
    let columns = c.args.self.now.columns in
    let e : c.map.result ≡ c.find.result = search rules in
    subst (LeastLeaving (grid_passage rows columns) c.args.zone c.args.from) (sym e)
    (least rows columns c.args.zone c.args.from c.max.result c.find.result c.max.ensures
    (first_from_Range _ _ _ _ (λ k. is_some (triple (grid_passage rows columns k)) ≡ true) (λ k. is_some (triple (grid_passage rows columns k)) ≡ false) c.find.ensures.ran (λ x q k. search rules) (λ x q k. search rules)))

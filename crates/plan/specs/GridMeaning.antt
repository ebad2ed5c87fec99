-- The meaning of a grid floor.
use Rattle.std.specs.Prelude.{◌≡◌, ℕ, ◌+◌, ◌-◌, ◌*◌, ◌/◌, ◌%◌, ◌<◌, ◌≤◌, Bool, true, false, cond, None, Option, ◌==◌, nat_lt, refl}
use Rattle.std.proofs.Common.{◌∙◌, ap, arith, mul-le-mul_left, mul_comm, mul-add, mod-lt, div-lt_iff_lt-mul, mul-zero, mul-one, lit<, ltb-true, ltb-false}
use Rattle.std.proofs.Math.Nat.{div-add-mod}
use Rattle.model.specs.Plans.{PlanMeaning, Passage, BoundsBy}
use Rattle.plan.specs.First.{when}
use Rattle.plan.specs.Grid.{grid_passage, side_passage, to}

pub record Inside (rows columns k : ℕ) : Type 0 where
  pub east : k % columns + 1 < columns → k + 1 < rows * columns
  pub south : k / columns + 1 < rows → k + columns < rows * columns
  pub north : 0 < k / columns → columns ≤ k
  pub positive : 0 < columns

columns_positive : (rows columns k : ℕ) → k < rows * columns → 0 < columns
columns_positive rows columns k l = go (nat_lt 0 columns) refl
  where
    go : (t : Bool) → nat_lt 0 columns ≡ t → 0 < columns
    go true e = ltb-true 0 columns e
    go false e = absurd (
        let z : columns ≡ 0 = let h = ltb-false 0 columns e in omega arith in
        let p : rows * columns ≡ 0 = ap (λ (c : ℕ). rows * c) z ∙ mul-zero rows in
        omega arith)

pub inside : (rows columns k : ℕ) → k < rows * columns → Inside rows columns k
inside rows columns k l =
    let o = columns_positive rows columns k l in
    let d = div-add-mod k columns in
    let m : k % columns < columns = mod-lt k o in
    let w = mul_comm rows columns in
    let q : k / columns < rows = (div-lt_iff_lt-mul {k = columns} {x = k} {y = rows} o).1 l in
    record {
      east = λ h. let a : columns * (k / columns + 1) ≤ columns * rows = mul-le-mul_left columns (omega arith) in
          let b = mul-add columns (k / columns) 1 in let c = mul-one columns in omega arith;
      south = λ h. let a : columns * (k / columns + 2) ≤ columns * rows = mul-le-mul_left columns (omega arith) in
          let b = mul-add columns (k / columns) 2 in omega arith;
      north = λ h. let a : columns * 1 ≤ columns * (k / columns) = mul-le-mul_left columns (omega arith) in
          let c = mul-one columns in omega arith;
      positive = o;
    }

if_there : (z n : ℕ) (t : Bool) (p : Passage) → (t ≡ true → (n < 256) × (p.origin < z) × (p.destination < z) × (p.kind < 8)) → BoundsBy z n (when t p)
if_there z n true p h = h refl
if_there z n false p h = tt

either_way : (z n : ℕ) (t : Bool) (a b : Option Passage) → BoundsBy z n a → BoundsBy z n b → BoundsBy z n (cond t a b)
either_way z n true a b h k = h
either_way z n false a b h k = k

pub grid_within : (rows columns : ℕ) → rows * columns ≤ 64 → (n : ℕ) → BoundsBy (rows * columns) n (grid_passage rows columns n)
grid_within rows columns few n = go (nat_lt (n / 4) (rows * columns)) refl
  where
    k : ℕ
    k = n / 4

    go : (t : Bool) → nat_lt (n / 4) (rows * columns) ≡ t → BoundsBy (rows * columns) n (cond t (side_passage rows columns (k / columns) (k % columns) k (n % 4)) None)
    go true e =
        let l = ltb-true (n / 4) (rows * columns) e in
        let i = inside rows columns (n / 4) l in
        let s : n < 256 = omega arith in
        let p = i.positive in
        either_way (rows * columns) n (n % 4 == 0) _ _
        (if_there (rows * columns) n (nat_lt (k % columns + 1) columns) (to k (k + 1) 0) (λ t. (s, l, i.east (ltb-true (k % columns + 1) columns t), lit< tt)))
        (either_way (rows * columns) n (n % 4 == 1) _ _
        (if_there (rows * columns) n (nat_lt (k / columns + 1) rows) (to k (k + columns) 1) (λ t. (s, l, i.south (ltb-true (k / columns + 1) rows t), lit< tt)))
        (either_way (rows * columns) n (n % 4 == 2) _ _
        (if_there (rows * columns) n (nat_lt 0 (k % columns)) (to k (k - 1) 0) (λ t. (s, l, omega arith, lit< tt)))
        (if_there (rows * columns) n (nat_lt 0 (k / columns)) (to k (k - columns) 1) (λ t. (s, l, omega arith, lit< tt)))))
    go false e = tt

abbrev pub grid : (rows columns : ℕ) → 1 ≤ rows * columns → rows * columns ≤ 64 → PlanMeaning
grid rows columns some few = record { zones = rows * columns; passage = grid_passage rows columns; some_zone = some; few_zones = few; bounded = grid_within rows columns few }

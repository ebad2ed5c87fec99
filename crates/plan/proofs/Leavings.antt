use Rattle.std.proofs.Common.{◌≡◌, ℕ, ◌+◌, ◌<◌, ◌≤◌, Bool, true, false, cond, ltb, List, Some, None, Option, sym, refl, ap, ◌∙◌, subst, arith, ltb-true, ltb-false, lt-ltb}
use Rattle.model.specs.Plans.{Passage, LeavesBy, Leaves, LeastLeaving}
use Rattle.plan.specs.Filed.{zone_count_of, count_of, entry_of, number_of, body_below_lem, passage_by, filed_passage, start_of, end_of, LeastAmong}
use Rattle.plan.specs.FiledFacts.{Kept, body_of, body_own, owned, owner_own, owner_ends, entry_ends, end_fits, end_last}

pub record LeftBy (b : List ℕ) (z n : ℕ) : Type 0 where
  pub low : n < 256
  pub body : ℕ
  pub there : body < count_of b
  pub numbered : number_of b body ≡ n
  pub zone : z < zone_count_of b
  pub starts : entry_of b z ≤ body
  pub ends : body < end_of b z

pub left_by : (b : List ℕ) → Kept b → (z n : ℕ) → Leaves (filed_passage b) z n → LeftBy b z n
left_by b k z n h = go (ltb n 256) refl h
  where
    at : n < 256 → (o : Option ℕ) → body_below_lem b n (count_of b) ≡ o → LeavesBy (passage_by b o) z → LeftBy b z n
    at l (Some i) e q =
        let y = body_of b n (count_of b) i (omega arith) e in
        let w = owned b k i (zone_count_of b) k.frame.some_zone in
        record {
          low = l;
          body = i;
          there = y.below;
          numbered = y.numbered;
          zone = subst (λ (x : ℕ). x < zone_count_of b) q w.below;
          starts = subst (λ (x : ℕ). entry_of b x ≤ i) q w.starts;
          ends = subst (λ (x : ℕ). i < end_of b x) q (owner_ends b k i y.below);
        }
    at l None e q = absurd q

    go : (t : Bool) → ltb n 256 ≡ t → LeavesBy (cond t (passage_by b (body_below_lem b n (count_of b))) None) z → LeftBy b z n
    go true e q = at (ltb-true n 256 e) (body_below_lem b n (count_of b)) refl q
    go false e q = absurd q

pub passage_at : (b : List ℕ) (n i : ℕ) → n < 256 → body_below_lem b n (count_of b) ≡ Some i → filed_passage b n ≡ passage_by b (Some i)
passage_at b n i l e = ap (λ t. cond t (passage_by b (body_below_lem b n (count_of b))) None) (lt-ltb n 256 l) ∙ ap (passage_by b) e

pub leaves : (b : List ℕ) → Kept b → (z i n : ℕ) → z < zone_count_of b → entry_of b z ≤ i → i < end_of b z → number_of b i ≡ n → n < 256 → Leaves (filed_passage b) z n
leaves b k z i n l p q e m =
    let f = end_fits b k z l in
    let o : body_below_lem b n (count_of b) ≡ Some i = subst (λ (x : ℕ). body_below_lem b x (count_of b) ≡ Some i) e (body_own b k i (omega arith)) in
    subst (λ (x : Option Passage). LeavesBy x z) (sym (passage_at b n i m o)) (owner_own b k i z (zone_count_of b) l (omega arith) p q)

pub least_leaving : (b : List ℕ) → Kept b → (z from : ℕ) (o : Option ℕ) → z < zone_count_of b → LeastAmong b (entry_of b z) (end_of b z) from o → LeastLeaving (filed_passage b) z from o
least_leaving b k z from (Some n) l h = (
  h.high,
  leaves b k z h.body n l h.not_before h.within h.numbered h.low,
  λ y p q s. let r = left_by b k z y s in let g = r.numbered in let t = h.least r.body r.starts r.ends (omega arith) in omega (arith, t, g),
)
least_leaving b k z from None l h =
    λ y p s. let r = left_by b k z y s in let g = r.numbered in h r.body r.starts r.ends (omega arith)

pub none_leaving : (b : List ℕ) → Kept b → (z from : ℕ) → zone_count_of b ≤ z → LeastLeaving (filed_passage b) z from None
none_leaving b k z from l y p s = let r = left_by b k z y s in let g = r.zone in omega arith

-- the bodies of a zone stand from its start to the next one's, and past the last zone there is none
pub starts_rise : (b : List ℕ) → Kept b → (z : ℕ) → (start_of b z ≤ start_of b (z + 1)) × (start_of b (z + 1) ≤ count_of b)
starts_rise b k z = go (ltb z (zone_count_of b)) refl
  where
    go : (t : Bool) → ltb z (zone_count_of b) ≡ t → (cond t (entry_of b z) (count_of b) ≤ start_of b (z + 1)) × (start_of b (z + 1) ≤ count_of b)
    go true e = let l = ltb-true z (zone_count_of b) e in (entry_ends b k z l, end_fits b k z l)
    go false e = let n = end_last b z (omega (arith, ltb-false z (zone_count_of b) e)) in (omega (arith, n), omega (arith, n))

pub leaving_from : (b : List ℕ) → Kept b → (z from : ℕ) (o : Option ℕ) → LeastAmong b (start_of b z) (start_of b (z + 1)) from o → LeastLeaving (filed_passage b) z from o
leaving_from b k z from o h = go (ltb z (zone_count_of b)) refl o h
  where
    go : (t : Bool) → ltb z (zone_count_of b) ≡ t → (o : Option ℕ) → LeastAmong b (cond t (entry_of b z) (count_of b)) (start_of b (z + 1)) from o → LeastLeaving (filed_passage b) z from o
    go true e o h = least_leaving b k z from o (ltb-true z (zone_count_of b) e) h
    go false e (Some n) h = let f = (starts_rise b k z).1 in let p = h.not_before in let q = h.within in absurd (omega arith)
    go false e None h = none_leaving b k z from (ltb-false z (zone_count_of b) e)

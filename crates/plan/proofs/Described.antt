use Rattle.std.proofs.Common.{◌≡◌, ℕ, ◌<◌, ◌≤◌, true, cond, ◌↔◌, List, Some, None, Option, sym, refl, ap, ◌∙◌, subst, arith, lt-ltb}
use Rattle.model.specs.Plans.{Passage}
use Rattle.plan.specs.Filed.{zone_count_of, count_of, entry_of, end_of, destination_of, kind_of, body_below_lem, owner_below, passage_by, filed_passage, accepted}
use Rattle.plan.specs.FiledLaw.{Body, Describes}
use Rattle.plan.specs.FiledMeaning.{filed}
use Rattle.plan.specs.FiledFacts.{Kept, kept, body_of, body_own, owned, owner_own, owner_ends}
use Rattle.plan.proofs.Leavings.{passage_at}

same_origin : (a z d k : ℕ) (p : Passage) → Some (record { origin = a; destination = d; kind = k }) ≡ Some p → (a ≡ p.origin) × (d ≡ p.destination) × (k ≡ p.kind)
same_origin a z d k p e = (cc, cc, cc)

back : (b : List ℕ) → Kept b → (n : ℕ) (p : Passage) → (o : Option ℕ) → body_below_lem b n (count_of b) ≡ o → passage_by b o ≡ Some p → Body b n p
back b k n p (Some i) q e =
    let y = body_of b n (count_of b) i (omega arith) q in
    let w = owned b k i (zone_count_of b) k.frame.some_zone in
    let s = same_origin (owner_below b i (zone_count_of b)) 0 (destination_of b i) (kind_of b i) p e in
    record {
      body = i;
      there = y.below;
      numbered = y.numbered;
      reaches = s.1;
      sorted = s.2;
      zone = subst (λ (x : ℕ). x < zone_count_of b) s.0 w.below;
      starts = subst (λ (x : ℕ). entry_of b x ≤ i) s.0 w.starts;
      ends = subst (λ (x : ℕ). i < end_of b x) s.0 (owner_ends b k i y.below);
    }
back b k n p None q e = absurd (let z : ◌≡◌ {A = ℕ} 0 1 = cc in omega arith)

join : (a d k : ℕ) (p : Passage) → a ≡ p.origin → d ≡ p.destination → k ≡ p.kind → Some (record { origin = a; destination = d; kind = k }) ≡ Some p
join a d k p e f g =
    ap (λ (x : ℕ). Some (record { origin = x; destination = d; kind = k })) e
    ∙ ap (λ (x : ℕ). Some (record { origin = p.origin; destination = x; kind = k })) f
    ∙ ap (λ (x : ℕ). Some (record { origin = p.origin; destination = p.destination; kind = x })) g

pub described : (b : List ℕ) → Kept b → (n : ℕ) (p : Passage) → n < 256 → (filed_passage b n ≡ Some p) ↔ Body b n p
described b k n p l = (
  λ e. back b k n p (body_below_lem b n (count_of b)) refl (sym (ap (λ t. cond t (passage_by b (body_below_lem b n (count_of b))) None) (lt-ltb n 256 l)) ∙ e),
  λ y.
      let i = y.body in
      let o : body_below_lem b n (count_of b) ≡ Some i = subst (λ (x : ℕ). body_below_lem b x (count_of b) ≡ Some i) y.numbered (body_own b k i y.there) in
      let w = owner_own b k i p.origin (zone_count_of b) y.zone (omega arith) y.starts y.ends in
      passage_at b n i l o ∙ join _ _ _ p w y.reaches y.sorted,
)

pub describes : (b a : List ℕ) (e : accepted a ≡ true) → a ≡ b → Describes b (filed a e)
describes b a e q = subst (λ (x : List ℕ). Describes x (filed a e)) q (record { zones = refl; passages = described a (kept a e) })

-- What a closure that is called at each number of a range has found.
use Rattle.std.proofs.Common.{◌≡◌, ℕ, zero, suc, ◌<◌, ◌≤◌, Bool, true, false, List, [], ◌∷◌, is_some, Some, None, Option, sym, ap, ◌∙◌, subst, add-one, arith, ⊎_elim, eq-or-lt_of_le}
use Rattle.std.specs.List.{FoldsTo}
use Rattle.std.specs.Fn.{Called}
use Rattle.std.specs.Iterator.{Yields, YieldsThen, ChecksAny, TryCallsOnEach}
use Rattle.std.specs.Option.{MatchOption}
use Rattle.std.specs.Result.{IsErr, IsErrAnd, result_from_control_flow}
use Rattle.std.specs.declared.result.Result.{Result}
use Rattle.std.specs.declared.result.Result.TheVariants.{Ok, Err}
use Rattle.std.specs.declared.ops.Range.{Range}
use Rattle.std.proofs.iter.Yields.{nat_range_steps}
use denote.Param.Members.{Mut}
use Rattle.plan.specs.First.{when, first_below, FaultIs}
use Rattle.plan.specs.FirstFacts.{first_zero, first_more, first_at}

-- R, which leaves f as it was, took f through the numbers of s up to t
record Walked {F : Type 0} (R : F → ℕ → F → Type 0) (f : F) (s t : Range ℕ) (j : F) : Type 0 where
  same : j ≡ f
  end : t.end ≡ s.end
  start : s.start ≤ t.start
  held : (k : ℕ) → s.start ≤ k → k < t.start → R f k f

-- R held at the numbers of s before the one at which it stopped, or at all of them
abbrev Stops : {F : Type 0} (R : F → ℕ → F → Type 0) (f : F) (s : Range ℕ) → Option ℕ → Type 0
Stops R f s (Some x) = (s.start ≤ x) × (x < s.end) × ((k : ℕ) → s.start ≤ k → k < x → R f k f)
Stops R f s None = (k : ℕ) → s.start ≤ k → k < s.end → R f k f

module _ {F : Type 0} (R : F → ℕ → F → Type 0) (f : F) (keeps : (x : ℕ) (q : F) → R f x q → q ≡ f) where
  walk : (xs : List ℕ) (s t : Range ℕ) (j : F) → Yields nat_range_steps s xs t → FoldsTo R f xs j → Walked R f s t j
  walk [] s t j y c = record {
    same = sym c;
    end = ap (λ (r : Range ℕ). r.end) (sym y);
    start = omega (arith, ap (λ (r : Range ℕ). r.start) y);
    held = λ k l m. absurd (omega (arith, ap (λ (r : Range ℕ). r.start) y));
  }
  walk (x ∷ xs) s t j y c =
      let e = keeps x c.0 c.1 in
      let w = walk xs y.0 t j y.2 (subst (λ i. FoldsTo R i xs j) e c.2) in
      let at : R f s.start f = subst (λ (k : ℕ). R f k f) y.1.1.1 (subst (R f x) e c.1) in
      record {
        same = w.same;
        end = w.end ∙ y.1.0;
        start = omega (arith, w.start, y.1.1.2);
        held = λ k l m. ⊎_elim (λ q. subst (λ (i : ℕ). R f i f) q at) (λ q. w.held k (omega (arith, y.1.1.2)) m) (eq-or-lt_of_le {n = s.start} {m = k} l);
      }

  stopped : (xs : List ℕ) (o : Option ℕ) (s u : Range ℕ) (j : F) → YieldsThen nat_range_steps s xs o u → FoldsTo R f xs j → (j ≡ f) × Stops R f s o
  stopped xs None s u j y c = let w = walk xs s y.0 j y.1 c in (w.same, λ k l m. w.held k l (omega (arith, w.end, y.2.1.0)))
  stopped xs (Some x) s u j y c =
      let w = walk xs s y.0 j y.1 c in
      (w.same, (omega (arith, w.start, y.2.1.1), omega (arith, w.end, y.2.1.0, y.2.1.1), λ k l m. w.held k l (omega (arith, y.2.1.1))))

none_below : {X : Type 0} (f : ℕ → Option X) (n : ℕ) → ((k : ℕ) → k < n → f k ≡ None) → first_below f n ≡ None
none_below f zero h = first_zero f
none_below f (suc n) h = subst (λ (k : ℕ). first_below f k ≡ None) (add-one n) (first_more f n (none_below f n (λ k l. h k (omega arith))) (h n (omega arith)))

-- `any` over the numbers below n
pub any_below : {F : Type 0} (g : Mut F (ℕ × Unit {0}) Bool) (s u : Range ℕ) (f : F) (r : Bool) (n : ℕ) (test : ℕ → Bool)
    → ChecksAny nat_range_steps g s f r u → s.start ≡ 0 → s.end ≡ n
    → ((x : ℕ) (b : Bool) (q : F) → Called g f (x, tt) b q → (q ≡ f) × (b ≡ test x))
    → r ≡ is_some (first_below (λ k. when (test k) k) n)
any_below {F} g s u f r n test c z m says = let w = stopped No f (λ x q h. (says x false q h).0) c.0 c.1 s u c.2 c.3 c.4 in go c.1 c.2 w.0 w.1 c.5
  where
    No : F → ℕ → F → Type 0
    No p x q = Called g p (x, tt) false q

    miss : (k : ℕ) → No f k f → when (test k) k ≡ None
    miss k h = ap (λ t. when t k) (sym (says k false f h).1)

    go : (o : Option ℕ) (j : F) → j ≡ f → Stops No f s o → MatchOption o (r ≡ false) (λ x. (r ≡ true) × ((h : F) × Called g j (x, tt) true h)) → r ≡ is_some (first_below (λ k. when (test k) k) n)
    go None j e w h = h ∙ ap is_some (sym (none_below (λ k. when (test k) k) n (λ k l. miss k (w k (omega arith) (omega arith)))))
    go (Some x) j e w h =
        let hit : test x ≡ true = sym (says x true h.1.0 (subst (λ i. Called g i (x, tt) true h.1.0) e h.1.1)).1 in
        let before = none_below (λ k. when (test k) k) x (λ k l. miss k (w.2 k (omega arith) l)) in
        h.0 ∙ ap is_some (sym (first_at (λ k. when (test k) k) x n x (omega (arith, w.1)) before (ap (λ t. when t x) hit)))

-- `try_for_each` over the numbers below n, where each call finds the fault of its number
pub try_below : {F E : Type 0} (g : Mut F (ℕ × Unit {0}) (Result (Unit {0}) E)) (s u : Range ℕ) (f : F) (r : Result (Unit {0}) E) (n : ℕ) (fault : ℕ → Option E)
    → TryCallsOnEach nat_range_steps g (λ v c. v ≡ result_from_control_flow c) (λ e v. IsErr v × IsErrAnd v (λ d. d ≡ e.0)) s f r u → s.start ≡ 0 → s.end ≡ n
    → ((x : ℕ) (v : Result (Unit {0}) E) (q : F) → Called g f (x, tt) v q → (q ≡ f) × FaultIs (fault x) v)
    → FaultIs (first_below fault n) r
try_below {F} {E} g s u f r n fault c z m says = let w = stopped Fine f (λ x q h. (says x h.0 q h.1).0) c.0 c.1 s u c.2 c.3 c.4 in go _ _ c.1 c.2 w.0 w.1 c.5
  where
    Fine : F → ℕ → F → Type 0
    Fine p x q = (v : Result (Unit {0}) E) × Called g p (x, tt) v q × (v ≡ Ok tt)

    pass : (k : ℕ) → Fine f k f → fault k ≡ None
    pass k h = subst (FaultIs (fault k)) h.2 (says k h.0 f h.1).1

    broken : (x : ℕ) (d : E) (v : Result (Unit {0}) E) → first_below fault n ≡ Some d → IsErr v × IsErrAnd v (λ e. e ≡ d) → FaultIs (first_below fault n) v
    broken x d (Ok y) e h = absurd (let q : ◌≡◌ {A = ℕ} 0 1 = cc in omega arith)
    broken x d (Err y) e h = e ∙ ap Some (sym h.1)

    go : (Z : Type 0) (of : Z → E) (o : Option ℕ) (j : F) → j ≡ f → Stops Fine f s o
        → MatchOption o (r ≡ Ok tt) (λ x. (v : Result (Unit {0}) E) × (h : F) × (e : Z) × Called g j (x, tt) v h × (v ≡ Err (of e)) × (IsErr r × IsErrAnd r (λ d. d ≡ of e))) → FaultIs (first_below fault n) r
    go Z of None j e w h = subst (FaultIs (first_below fault n)) (sym h) (none_below fault n (λ k l. pass k (w k (omega arith) (omega arith))))
    go Z of (Some x) j e w h =
        let hit : fault x ≡ Some (of h.2) = subst (FaultIs (fault x)) h.4 (says x h.0 h.1 (subst (λ i. Called g i (x, tt) h.0 h.1) e h.3)).1 in
        let before = none_below fault x (λ k l. pass k (w.2 k (omega arith) l)) in
        broken x (of h.2) r (first_at fault x n (of h.2) (omega (arith, w.1)) before hit) h.5

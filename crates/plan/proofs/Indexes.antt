use Rattle.std.proofs.Common.{◌≡◌, ℕ, ◌+◌, ◌<◌, false, eqb, List, length, get_or, set, replicate, Some, None, Option, sym, refl, ap, ◌∙◌, subst, add-one, arith, get_or-set_other, get_or-set_same, eq-eqb, ne_eqb}
use native.Mathlib.Decide.{ℕ_discrete}
use lib.ListN.{get_or-replicate}
use Rattle.plan.specs.First.{when, or_else, first_below}
use Rattle.plan.specs.FirstFacts.{first_at}
use Rattle.plan.specs.Filed.{number_of, count_of, body_below_lem}
use Rattle.plan.specs.FiledFacts.{Kept}

or_none : {A : Type 0} (o : Option A) → or_else o None ≡ o
or_none (Some x) = refl
or_none None = refl

first_skip : {A : Type 0} (f : ℕ → Option A) (i : ℕ) → f i ≡ None → first_below f (i + 1) ≡ first_below f i
unfolding first_below
first_skip f i h = rw add-one (ap (λ o. or_else (first_below f i) o) h ∙ or_none _)

pub start : (b : List ℕ) (n : ℕ) → n < 256 → get_or (replicate 256 None) n None ≡ body_below_lem b n 0
unfolding first_below
start b n l = get_or-replicate 256 n None None l

pub more : (b : List ℕ) → Kept b → (xs : List (Option ℕ)) (i at : ℕ) → i < count_of b → at ≡ number_of b i → at < 256 → length xs ≡ 256 →
    ((n : ℕ) → n < 256 → get_or xs n None ≡ body_below_lem b n i) → (n : ℕ) → n < 256 → get_or (set xs at (Some i)) n None ≡ body_below_lem b n (i + 1)
more b k xs i at l e low len h n m = go (ℕ_discrete n at)
  where
    go : Dec (n ≡ at) → get_or (set xs at (Some i)) n None ≡ body_below_lem b n (i + 1)
    go (yes q) =
        let s : at < length xs = omega arith in
        let f = first_at (λ j. when (eqb (number_of b j) (number_of b i)) j) i (i + 1) i (omega arith) (k.bodies i l).fresh (ap (λ t. when t i) (eq-eqb (number_of b i) (number_of b i) refl)) in
        subst (λ (x : ℕ). get_or (set xs at (Some i)) x None ≡ body_below_lem b x (i + 1)) (sym q)
        (get_or-set_same xs at (Some i) None s ∙ sym (subst (λ (x : ℕ). body_below_lem b x (i + 1) ≡ Some i) (sym e) f))
    go (no q) =
        let d : eqb (number_of b i) n ≡ false = ne_eqb (number_of b i) n (λ r. q (sym (e ∙ r))) in
        get_or-set_other xs at n (Some i) None q ∙ h n m ∙ sym (first_skip (λ j. when (eqb (number_of b j) n) j) i (ap (λ t. when t i) d))

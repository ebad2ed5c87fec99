use Rattle.std.specs.Prelude.{◌≡◌, ℕ, zero, suc, ◌+◌, ◌<◌, Bool, true, false, Some, None, Option, refl}
use Rattle.std.proofs.Common.{sym, ◌∙◌, ap, ⊎_elim, arith, eq-or-lt_of_le, le_of_suc-le-suc, add-one}
use Rattle.plan.specs.First.{when, or_else, first_below}

pub or_left : {A : Type 0} (a b : Option A) → or_else a b ≡ None → a ≡ None
or_left (Some x) b e = e
or_left None b e = refl

pub or_right : {A : Type 0} (a b : Option A) → or_else a b ≡ None → b ≡ None
or_right (Some x) b e = absurd (let z : ◌≡◌ {A = ℕ} 0 1 = cc in omega arith)
or_right None b e = e

pub when_none : {A : Type 0} (t : Bool) (x : A) → when t x ≡ None → t ≡ false
when_none true x e = absurd (let z : ◌≡◌ {A = ℕ} 0 1 = cc in omega arith)
when_none false x e = refl

pub first_zero : {A : Type 0} (f : ℕ → Option A) → first_below f 0 ≡ None
unfolding first_below
first_zero f = refl

pub first_more : {A : Type 0} (f : ℕ → Option A) (i : ℕ) → first_below f i ≡ None → f i ≡ None → first_below f (i + 1) ≡ None
unfolding first_below
first_more f i e h = rw add-one (ap (λ o. or_else o (f i)) e ∙ h)

pub first_at : {A : Type 0} (f : ℕ → Option A) (i n : ℕ) (x : A) → i < n → first_below f i ≡ None → f i ≡ Some x → first_below f n ≡ Some x
unfolding first_below
first_at f i zero x l e h = absurd (omega arith)
first_at f i (suc n) x l e h = ⊎_elim
    (λ q. ap (λ (k : ℕ). or_else (first_below f k) (f k)) (sym q) ∙ ap (λ o. or_else o (f i)) e ∙ h)
    (λ q. ap (λ o. or_else o (f n)) (first_at f i n x q e h))
    (eq-or-lt_of_le {n = i} {m = n} (le_of_suc-le-suc l))

pub none_at : {A : Type 0} (f : ℕ → Option A) (i n : ℕ) → i < n → first_below f n ≡ None → f i ≡ None
unfolding first_below
none_at f i zero l e = absurd (omega arith)
none_at f i (suc n) l e = ⊎_elim
    (λ q. ap f q ∙ or_right (first_below f n) (f n) e)
    (λ q. none_at f i n q (or_left (first_below f n) (f n) e))
    (eq-or-lt_of_le {n = i} {m = n} (le_of_suc-le-suc l))

-- where the first answer came, with none before it
pub record Came {A : Type 0} (f : ℕ → Option A) (n : ℕ) (x : A) : Type 0 where
  pub at : ℕ
  pub below : at < n
  pub gives : f at ≡ Some x
  pub before : first_below f at ≡ None

pub came : {A : Type 0} (f : ℕ → Option A) (n : ℕ) (x : A) → first_below f n ≡ Some x → Came f n x
unfolding first_below
came f zero x e = absurd (let z : ◌≡◌ {A = ℕ} 0 1 = cc in omega arith)
came f (suc n) x e = go (first_below f n) refl e (λ h. came f n x h)
  where
    go : (o : Option _) → first_below f n ≡ o → or_else o (f n) ≡ Some x → (o ≡ Some x → Came f n x) → Came f (suc n) x
    go (Some y) p h s = let r = s h in let l = r.below in record { at = r.at; below = omega arith; gives = r.gives; before = r.before }
    go None p h s = record { at = n; below = omega arith; gives = h; before = p }

use Rattle.std.specs.Prelude.{◌≡◌, ℕ, zero, suc, ◌+◌, ◌-◌, ◌<◌, ◌≤◌, Bool, true, false, cond, not, ◌||◌, ltb, leb, ◌⊎◌, List, length, is_some, Some, None, Option, ◌==◌, nat_eq, nat_le, nat_lt, refl}
use Rattle.std.proofs.Common.{sym, ◌∙◌, ap, subst, inl, inr, ⊎_elim, arith, eq-or-lt_of_le, le_of_suc-le-suc, add-one, ltb-false, leb-false, leb-true, eqb-true, ltb-true, lt-ltb, le-ltb, le-leb, eq-eqb, ne_eqb}
use Rattle.std.proofs.lemmas.Bool.{eqb-false, not-false, lt-leb, or_parts}
use Rattle.fault.specs.declared.PlanFault.{PlanFault}
use Rattle.fault.specs.declared.PlanFault.TheVariants.{Short, Zones, Passages, Repeated, Destination}
use Rattle.plan.specs.First.{when, or_else, first_below}
use Rattle.plan.specs.Filed.{zone_count_of, count_of, size_of, entry_of, body_place_lem, number_of, destination_of, kind_of, body_below_lem, owner_below, head_fault, bad_entry_lem, entry_fault, body_fault, file_fault, accepted, Framed, end_of}
use Rattle.plan.specs.FirstFacts.{or_left, or_right, when_none, first_at, none_at, came}

pub no_some : {A : Type 0} (o : Option A) → is_some o ≡ false → o ≡ None
no_some (Some x) e = absurd (let z : ◌≡◌ {A = ℕ} 0 1 = cc in omega arith)
no_some None e = refl

no_fault : (o : Option PlanFault) → not (is_some o) ≡ true → o ≡ None
no_fault (Some x) e = absurd (let z : ◌≡◌ {A = ℕ} 0 1 = cc in omega arith)
no_fault None e = refl

pub framed : (b : List ℕ) → head_fault b ≡ None → Framed b
framed b e =
    let e1 = or_right (when (nat_lt (length b) 3) (Short (length b))) _ e in
    let e2 = or_right (when (zone_count_of b == 0 || nat_lt 64 (zone_count_of b)) (Zones 0)) _ e1 in
    let e3 = or_right (when (nat_lt 256 (count_of b)) (Passages 1)) _ e2 in
    let t0 = when_none (nat_lt (length b) 3) _ (or_left _ _ e) in
    let t1 = when_none (zone_count_of b == 0 || nat_lt 64 (zone_count_of b)) _ (or_left _ _ e1) in
    let t2 = when_none (nat_lt 256 (count_of b)) _ (or_left _ _ e2) in
    let t3 = when_none (not (length b == size_of b)) _ e3 in
    let n : zone_count_of b ≡ 0 → ⊥ = eqb-false (zone_count_of b) 0 (or_parts (zone_count_of b == 0) _ t1).0 in
    record {
      long = ltb-false (length b) 3 t0;
      some_zone = omega (arith, n);
      few_zones = ltb-false 64 (zone_count_of b) (or_parts (zone_count_of b == 0) _ t1).1;
      few_passages = ltb-false 256 (count_of b) t2;
      sized = eqb-true (length b) (size_of b) (not-false _ t3);
    }

-- what one test of a body leaves
pub record Fine (b : List ℕ) (i : ℕ) : Type 0 where
  pub fresh : body_below_lem b (number_of b i) i ≡ None
  pub inside : destination_of b i < zone_count_of b
  pub kind : kind_of b i ≤ 7

pub fine : (b : List ℕ) (i : ℕ) → body_fault b i ≡ None → Fine b i
fine b i e =
    let n = or_right (when (is_some (body_below_lem b (number_of b i) i)) (Repeated (body_place_lem b i))) _ e in
    record {
      fresh = no_some (body_below_lem b (number_of b i) i) (when_none _ _ (or_left (when (is_some (body_below_lem b (number_of b i) i)) (Repeated (body_place_lem b i))) _ e));
      inside = leb-false (zone_count_of b) (destination_of b i) (when_none _ _ (or_left (when (nat_le (zone_count_of b) (destination_of b i)) (Destination (body_place_lem b i + 1))) _ n));
      kind = ltb-false 7 (kind_of b i) (when_none _ _ (or_right (when (nat_le (zone_count_of b) (destination_of b i)) (Destination (body_place_lem b i + 1))) _ n));
    }

-- what an accepted file is known to keep
pub record Kept (b : List ℕ) : Type 0 where
  pub frame : Framed b
  pub entries : (z : ℕ) → z < zone_count_of b → bad_entry_lem b z ≡ false
  pub bodies : (i : ℕ) → i < count_of b → Fine b i

pub kept_by : (b : List ℕ) → head_fault b ≡ None → first_below (entry_fault b) (zone_count_of b) ≡ None → first_below (body_fault b) (count_of b) ≡ None → Kept b
kept_by b h e f = record {
  frame = framed b h;
  entries = λ z l. when_none (bad_entry_lem b z) _ (none_at (entry_fault b) z (zone_count_of b) l e);
  bodies = λ i l. fine b i (none_at (body_fault b) i (count_of b) l f);
}

pub kept : (b : List ℕ) → accepted b ≡ true → Kept b
kept b e =
    let n : file_fault b ≡ None = no_fault (file_fault b) e in
    let r = or_right (head_fault b) _ n in
    kept_by b (or_left (head_fault b) _ n) (or_left (first_below (entry_fault b) (zone_count_of b)) _ r) (or_right (first_below (entry_fault b) (zone_count_of b)) _ r)

pub sound_by : (b : List ℕ) → head_fault b ≡ None → first_below (entry_fault b) (zone_count_of b) ≡ None → first_below (body_fault b) (count_of b) ≡ None → file_fault b ≡ None
sound_by b h e f = ap (λ o. or_else o (or_else (first_below (entry_fault b) (zone_count_of b)) (first_below (body_fault b) (count_of b)))) h ∙ ap (λ o. or_else o (first_below (body_fault b) (count_of b))) e ∙ f

-- what one test of an entry leaves
pub entry_fits : (b : List ℕ) (z : ℕ) → bad_entry_lem b z ≡ false → entry_of b z ≤ count_of b
entry_fits b z e = ltb-false (count_of b) (entry_of b z) (or_parts (cond (z == 0) (not (entry_of b z == 0)) (nat_lt (entry_of b z) (entry_of b (z - 1)))) _ e).1

pub entry_zero : (b : List ℕ) → bad_entry_lem b 0 ≡ false → entry_of b 0 ≡ 0
entry_zero b e = eqb-true (entry_of b 0) 0 (not-false _ (or_parts (not (entry_of b 0 == 0)) _ e).0)

pub entry_step : (b : List ℕ) (z : ℕ) → bad_entry_lem b (suc z) ≡ false → entry_of b z ≤ entry_of b (suc z)
entry_step b z e =
    let p : suc z - 1 ≡ z = omega arith in
    let n : nat_eq (suc z) 0 ≡ false = ne_eqb (suc z) 0 (λ q. omega arith) in
    let h = (or_parts (cond (suc z == 0) (not (entry_of b (suc z) == 0)) (nat_lt (entry_of b (suc z)) (entry_of b (suc z - 1)))) _ e).0 in
    let g : ltb (entry_of b (suc z)) (entry_of b (suc z - 1)) ≡ false = ap (λ t. cond t (not (entry_of b (suc z) == 0)) (nat_lt (entry_of b (suc z)) (entry_of b (suc z - 1)))) (sym n) ∙ h in
    subst (λ (y : ℕ). entry_of b y ≤ entry_of b (suc z)) p (ltb-false _ _ g)

-- the entries rise
pub entry_rises : (b : List ℕ) → Kept b → (z y : ℕ) → z ≤ y → y < zone_count_of b → entry_of b z ≤ entry_of b y
entry_rises b k z zero l h = subst (λ (x : ℕ). entry_of b x ≤ entry_of b 0) (let q : 0 ≡ z = omega arith in q) (omega arith)
entry_rises b k z (suc y) l h = ⊎_elim
    (λ q. subst (λ (x : ℕ). entry_of b z ≤ entry_of b x) q (omega arith))
    (λ q. let p = entry_rises b k z y (le_of_suc-le-suc q) (omega arith) in let s = entry_step b y (k.entries (suc y) h) in omega (arith, p, s))
    (eq-or-lt_of_le {n = z} {m = suc y} l)

pub end_last : (b : List ℕ) (z : ℕ) → zone_count_of b ≤ z + 1 → end_of b z ≡ count_of b
end_last b z l = ap (λ t. cond t (entry_of b (z + 1)) (count_of b)) (le-ltb (z + 1) (zone_count_of b) l)

pub end_next : (b : List ℕ) (z : ℕ) → z + 1 < zone_count_of b → end_of b z ≡ entry_of b (z + 1)
end_next b z l = ap (λ t. cond t (entry_of b (z + 1)) (count_of b)) (lt-ltb (z + 1) (zone_count_of b) l)

pub end_fits : (b : List ℕ) → Kept b → (z : ℕ) → z < zone_count_of b → end_of b z ≤ count_of b
end_fits b k z l = go (nat_lt (z + 1) (zone_count_of b)) refl
  where
    go : (t : Bool) → nat_lt (z + 1) (zone_count_of b) ≡ t → end_of b z ≤ count_of b
    go true e = let h = ltb-true (z + 1) (zone_count_of b) e in rw (end_next b z h) (entry_fits b (z + 1) (k.entries (z + 1) h))
    go false e = let h = ltb-false (z + 1) (zone_count_of b) e in let q = end_last b z h in omega (arith, q)

-- the owner is the one zone whose bodies include i
pub owner_own : (b : List ℕ) → Kept b → (i z n : ℕ) → z < n → n ≤ zone_count_of b → entry_of b z ≤ i → i < end_of b z → owner_below b i n ≡ z
unfolding owner_below
owner_own b k i z zero l m p q = absurd (omega arith)
owner_own b k i z (suc n) l m p q = ⊎_elim
    (λ e. let h : leb (entry_of b n) i ≡ true = le-leb (entry_of b n) i (subst (λ (x : ℕ). entry_of b x ≤ i) e p) in
    ap (λ t. cond t n (owner_below b i n)) h ∙ sym e)
    (λ e.
    let a : z + 1 < zone_count_of b = omega arith in
    let r = entry_rises b k (z + 1) n (omega arith) (omega arith) in
    let s = end_next b z a in
    let h : leb (entry_of b n) i ≡ false = lt-leb (entry_of b n) i (omega (arith, r, s)) in
    ap (λ t. cond t n (owner_below b i n)) h ∙ owner_own b k i z n e (omega arith) p q)
    (eq-or-lt_of_le {n = z} {m = n} (le_of_suc-le-suc l))

pub record Owned (b : List ℕ) (i n z : ℕ) : Type 0 where
  pub below : z < n
  pub starts : entry_of b z ≤ i
  pub past : (y : ℕ) → z < y → y < n → i < entry_of b y

pub owned : (b : List ℕ) → Kept b → (i n : ℕ) → 1 ≤ n → Owned b i n (owner_below b i n)
unfolding owner_below
owned b k i zero l = absurd (omega arith)
owned b k i (suc n) l = go (nat_le (entry_of b n) i) refl (λ q. owned b k i n q)
  where
    rest : leb (entry_of b n) i ≡ false → (1 ≤ n → Owned b i n (owner_below b i n)) → (0 ≡ n) ⊎ (0 < n) → Owned b i (suc n) (owner_below b i n)
    rest e s (inl q) = let z = entry_zero b (k.entries 0 k.frame.some_zone) in let h = leb-false (entry_of b n) i e in
        absurd (let g : i < entry_of b 0 = subst (λ (x : ℕ). i < entry_of b x) (sym q) h in omega (arith, z, g))
    rest e s (inr q) = let r = s q in let x = r.below in record {
      below = omega arith;
      starts = r.starts;
      past = λ y p m. ⊎_elim (λ u. subst (λ (x : ℕ). i < entry_of b x) (sym u) (leb-false (entry_of b n) i e)) (λ u. r.past y p u) (eq-or-lt_of_le {n = y} {m = n} (le_of_suc-le-suc m));
    }

    go : (t : Bool) → nat_le (entry_of b n) i ≡ t → (1 ≤ n → Owned b i n (owner_below b i n)) → Owned b i (suc n) (cond t n (owner_below b i n))
    go true e s = record { below = omega arith; starts = leb-true (entry_of b n) i e; past = λ y p q. absurd (omega arith) }
    go false e s = rest e s (eq-or-lt_of_le {n = 0} {m = n} (omega arith))

pub owner_ends : (b : List ℕ) → Kept b → (i : ℕ) → i < count_of b → i < end_of b (owner_below b i (zone_count_of b))
owner_ends b k i l = go (nat_lt (z + 1) (zone_count_of b)) refl
  where
    z : ℕ
    z = owner_below b i (zone_count_of b)

    r : Owned b i (zone_count_of b) z
    r = owned b k i (zone_count_of b) k.frame.some_zone

    go : (t : Bool) → nat_lt (z + 1) (zone_count_of b) ≡ t → i < end_of b z
    go true e = let h = ltb-true (z + 1) (zone_count_of b) e in rw (end_next b z h) (r.past (z + 1) (omega arith) h)
    go false e = let h = ltb-false (z + 1) (zone_count_of b) e in let q = end_last b z h in omega (arith, q)

-- the body with a number
pub body_own : (b : List ℕ) → Kept b → (i : ℕ) → i < count_of b → body_below_lem b (number_of b i) (count_of b) ≡ Some i
body_own b k i l = first_at _ i (count_of b) i l (k.bodies i l).fresh (ap (λ t. when t i) (eq-eqb (number_of b i) (number_of b i) refl))

pub record Numbered (b : List ℕ) (n i : ℕ) : Type 0 where
  pub below : i < count_of b
  pub numbered : number_of b i ≡ n

when_some : (t : Bool) (x y : ℕ) → when t x ≡ Some y → (t ≡ true) × (x ≡ y)
when_some true x y e = (refl, cc)
when_some false x y e = absurd (let z : ◌≡◌ {A = ℕ} 0 1 = cc in omega arith)

pub body_of : (b : List ℕ) (n m i : ℕ) → m ≤ count_of b → body_below_lem b n m ≡ Some i → Numbered b n i
body_of b n m i l e =
    let c = came (λ j. when (number_of b j == n) j) m i e in
    let w = when_some (number_of b c.at == n) c.at i c.gives in
    let q = w.1 in
    record { below = let x = c.below in omega arith; numbered = subst (λ (j : ℕ). number_of b j ≡ n) q (eqb-true _ _ w.0) }

pub owner_zero : (b : List ℕ) (i : ℕ) → 0 ≡ owner_below b i 0
unfolding owner_below
owner_zero b i = refl

pub owner_here : (b : List ℕ) (i z : ℕ) → entry_of b z ≤ i → z ≡ owner_below b i (z + 1)
unfolding owner_below
owner_here b i z l = rw add-one (sym (ap (λ t. cond t z (owner_below b i z)) (le-leb (entry_of b z) i l)))

pub owner_past : (b : List ℕ) (i z : ℕ) → i < entry_of b z → owner_below b i z ≡ owner_below b i (z + 1)
unfolding owner_below
owner_past b i z l = rw add-one (sym (ap (λ t. cond t z (owner_below b i z)) (lt-leb (entry_of b z) i l)))

pub entry_ends : (b : List ℕ) → Kept b → (z : ℕ) → z < zone_count_of b → entry_of b z ≤ end_of b z
entry_ends b k z l = go (nat_lt (z + 1) (zone_count_of b)) refl
  where
    go : (t : Bool) → nat_lt (z + 1) (zone_count_of b) ≡ t → entry_of b z ≤ end_of b z
    go true e = let h = ltb-true (z + 1) (zone_count_of b) e in rw (end_next b z h) (entry_rises b k z (z + 1) (omega arith) h)
    go false e = let h = ltb-false (z + 1) (zone_count_of b) e in rw (end_last b z h) (entry_fits b z (k.entries z l))

-- a body that was found lies in the file
pub record Sits (b : List ℕ) (i : ℕ) : Type 0 where
  pub low : i ≤ 256
  pub fits : body_place_lem b i + 2 < length b
  pub frame : Framed b

pub sits : (b : List ℕ) → Kept b → (n m i : ℕ) → m ≡ count_of b → Some i ≡ body_below_lem b n m → Sits b i
sits b k n m i q e =
    let y = body_of b n m i (omega arith) (sym e) in
    let u = y.below in
    let f = k.frame in
    let s = f.sized in
    let p = f.few_passages in
    record { low = omega arith; fits = omega arith; frame = f }

-- The three rules allow the routes of the three restrictions, and keep the laws.
use Rattle.std.proofs.Common.{◌≡◌, ℕ, zero, suc, ◌<◌, ◌≤◌, not, ◌||◌, T, eqb, ◌⊎◌, List, [], ◌∷◌, ◌++◌, map, length, get_or, sym, refl, ap, ◌∙◌, subst, inl, inr, ⊎_elim, arith, eqb→eq, T_not}
use native.Mathlib.Decide.{ℕ_discrete}
use lib.Dec.{eqb_refl, not_T}
use lib.ListN.{length-map}
use lib.Ieee.Fits.{and_r, and_l}
use Rattle.model.specs.Routes.{Step, Route, passages, zones_of, len, end_from}
use Rattle.model.specs.Rules.{Allowed, Plain, Trail, Acyclic, Simple, mem, trail, acyclic, simple, Restrictors}
use Rattle.model.proofs.Bools.{or_cases, or_left, and_make, or_right}

-- membership by index
mem→index : (p : ℕ) (ns : List ℕ) → T (mem p ns) → (i : ℕ) × (i < length ns) × (get_or ns i 0 ≡ p)
mem→index p [] t = absurd t
mem→index p (n ∷ ns) t = go (or_cases (eqb p n) (mem p ns) t) (λ u. mem→index p ns u)
  where
    go : T (eqb p n) ⊎ T (mem p ns) → (T (mem p ns) → (i : ℕ) × (i < length ns) × (get_or ns i 0 ≡ p)) → (i : ℕ) × (i < suc (length ns)) × (get_or (n ∷ ns) i 0 ≡ p)
    go (inl e) f = (zero, omega arith, sym (eqb→eq p n e))
    go (inr u) f = let r = f u in (suc r.0, omega arith, r.2)

index→mem : (ns : List ℕ) (i : ℕ) → i < length ns → T (mem (get_or ns i 0) ns)
index→mem [] i h = absurd (omega arith)
index→mem (n ∷ ns) zero h = or_left (eqb n n) (mem n ns) (eqb_refl n)
index→mem (n ∷ ns) (suc i) h = or_right (eqb (get_or ns i 0) n) (mem (get_or ns i 0) ns) (index→mem ns i (omega arith))

module _ (f : Step → ℕ) where
  at_split : (before after : List Step) (s : Step) → get_or (map f (before ++ (s ∷ after))) (length before) 0 ≡ f s
  at_split [] after s = refl
  at_split (b ∷ bs) after s = at_split bs after s

  at_before : (before after : List Step) (i : ℕ) → i < length before → get_or (map f (before ++ after)) i 0 ≡ get_or (map f before) i 0
  at_before [] after i h = absurd (omega arith)
  at_before (b ∷ bs) after zero h = refl
  at_before (b ∷ bs) after (suc i) h = at_before bs after i (omega arith)

length_split : (before after : List Step) (s : Step) → length before < length (before ++ (s ∷ after))
length_split [] after s = omega arith
length_split (b ∷ bs) after s = omega (arith, length_split bs after s)

-- the split of a list before its step j
pub record Cut (ss : List Step) (j : ℕ) : Type 0 where
  pub before : List Step
  pub here : Step
  pub after : List Step
  pub is : ss ≡ before ++ (here ∷ after)
  pub so_far : length before ≡ j

cut : (ss : List Step) (j : ℕ) → j < length ss → Cut ss j
cut [] j h = absurd (omega arith)
cut (s ∷ ss) zero h = record { before = []; here = s; after = ss; is = refl; so_far = refl }
cut (s ∷ ss) (suc j) h = let c = cut ss j (omega arith) in record { before = s ∷ c.before; here = c.here; after = c.after; is = ap (λ (x : List Step). s ∷ x) c.is; so_far = ap suc c.so_far }

-- trail
trail_there : (v : ℕ) (ss : List Step) → Allowed trail (record { start = v; steps = ss }) → Trail (record { start = v; steps = ss })
trail_there v ss a i j l h e =
    let c = cut ss j h in
    let k : i < length c.before = omega (arith, c.so_far) in
    let N : List Step → List ℕ = λ x. map (λ (s : Step). s.number) x in
    let p : get_or (N ss) i 0 ≡ get_or (N c.before) i 0 = ap (λ (x : List Step). get_or (N x) i 0) c.is ∙ at_before (λ (s : Step). s.number) c.before (c.here ∷ c.after) i k in
    let q : get_or (N ss) j 0 ≡ c.here.number = ap (λ (x : List Step). get_or (N x) j 0) c.is ∙ ap (λ (x : ℕ). get_or (N (c.before ++ (c.here ∷ c.after))) x 0) (sym c.so_far) ∙ at_split (λ (s : Step). s.number) c.before c.after c.here in
    let M : ℕ → Type 0 = λ x. T (mem x (N c.before)) in
    let m : T (mem c.here.number (N c.before)) = subst M (sym p ∙ e ∙ q) (index→mem (N c.before) i (omega (arith, length-map c.before (λ (s : Step). s.number)))) in
    T_not (mem c.here.number (N c.before)) (a c.before c.after c.here c.is) m

trail_back : (v : ℕ) (ss : List Step) → Trail (record { start = v; steps = ss }) → Allowed trail (record { start = v; steps = ss })
trail_back v ss t before after s e = not_T (mem s.number (N before)) (λ m.
    let r = mem→index s.number (N before) m in
    let k : r.0 < length before = omega (arith, length-map before (λ (x : Step). x.number), r.1) in
    let P : List Step → Type 0 = λ x. Trail (record { start = v; steps = x }) in
    let w : get_or (N (before ++ (s ∷ after))) r.0 0 ≡ get_or (N (before ++ (s ∷ after))) (length before) 0 = at_before (λ (x : Step). x.number) before (s ∷ after) r.0 k ∙ r.2 ∙ sym (at_split (λ (x : Step). x.number) before after s) in
    subst P e t r.0 (length before) k (length_split before after s) w)
  where
    N : List Step → List ℕ
    N x = map (λ (y : Step). y.number) x

-- the zones of a route
zone_before : (v : ℕ) (before after : List Step) (i : ℕ) → i ≤ length before → get_or (v ∷ map (λ (s : Step). s.reached) (before ++ after)) i 0 ≡ get_or (v ∷ map (λ (s : Step). s.reached) before) i 0
zone_before v before after zero h = refl
zone_before v before after (suc i) h = at_before (λ (s : Step). s.reached) before after i h

-- what is known at the cut before the step that reaches zone number j + 1
pub record Seen (v : ℕ) (ss : List Step) (i j : ℕ) : Type 0 where
  pub at : Cut ss j
  pub early : get_or (v ∷ map (λ (s : Step). s.reached) ss) i 0 ≡ get_or (v ∷ map (λ (s : Step). s.reached) at.before) i 0
  pub late : get_or (map (λ (s : Step). s.reached) ss) j 0 ≡ at.here.reached

seen : (v : ℕ) (ss : List Step) (i j : ℕ) → i ≤ j → j < length ss → Seen v ss i j
seen v ss i j l h =
    let c = cut ss j h in
    let F : Step → ℕ = λ s. s.reached in
    record {
      at = c;
      early = ap (λ (x : List Step). get_or (v ∷ map F x) i 0) c.is ∙ zone_before v c.before (c.here ∷ c.after) i (omega (arith, c.so_far));
      late = ap (λ (x : List Step). get_or (map F x) j 0) c.is ∙ ap (λ (x : ℕ). get_or (map F (c.before ++ (c.here ∷ c.after))) x 0) (sym c.so_far) ∙ at_split F c.before c.after c.here;
    }

acyclic_there : (v : ℕ) (ss : List Step) → Allowed acyclic (record { start = v; steps = ss }) → Acyclic (record { start = v; steps = ss })
acyclic_there v ss a i zero l h e = omega arith
acyclic_there v ss a i (suc j) l h e =
    let k = seen v ss i j (omega arith) h in
    let c = k.at in
    let zs : List ℕ = v ∷ map (λ (s : Step). s.reached) c.before in
    let M : ℕ → Type 0 = λ x. T (mem x zs) in
    let m : T (mem c.here.reached zs) = subst M (sym k.early ∙ e ∙ k.late) (index→mem zs i (omega (arith, length-map c.before (λ (s : Step). s.reached), c.so_far))) in
    T_not (mem c.here.reached zs) (a c.before c.after c.here c.is) m

acyclic_back : (v : ℕ) (ss : List Step) → Acyclic (record { start = v; steps = ss }) → Allowed acyclic (record { start = v; steps = ss })
acyclic_back v ss t before after s e =
    let F : Step → ℕ = λ x. x.reached in
    let zs : List ℕ = v ∷ map F before in
    not_T (mem s.reached zs) (λ m.
    let r = mem→index s.reached zs m in
    let k : r.0 ≤ length before = omega (arith, length-map before F, r.1) in
    let P : List Step → Type 0 = λ x. Acyclic (record { start = v; steps = x }) in
    let w : get_or (v ∷ map F (before ++ (s ∷ after))) r.0 0 ≡ get_or (map F (before ++ (s ∷ after))) (length before) 0 = zone_before v before (s ∷ after) r.0 k ∙ r.2 ∙ sym (at_split F before after s) in
    subst P e t r.0 (suc (length before)) (omega arith) (length_split before after s) w)

-- where a route ends, by index
end_at : (v : ℕ) (ss : List Step) → get_or (v ∷ map (λ (s : Step). s.reached) ss) (length ss) 0 ≡ end_from v ss
end_at v [] = refl
end_at v (s ∷ ss) = end_at s.reached ss

simple_there : (v : ℕ) (ss : List Step) → Allowed simple (record { start = v; steps = ss }) → Simple (record { start = v; steps = ss })
simple_there v ss a i zero l h e = absurd (omega arith)
simple_there v ss a (suc i) (suc j) l h e =
    let k = seen v ss (suc i) j (omega arith) h in
    let c = k.at in
    let zs : List ℕ = map (λ (s : Step). s.reached) c.before in
    let M : ℕ → Type 0 = λ x. T (mem x zs) in
    let m : T (mem c.here.reached zs) = subst M (sym k.early ∙ e ∙ k.late) (index→mem zs i (omega (arith, length-map c.before (λ (s : Step). s.reached), c.so_far))) in
    absurd (T_not (mem c.here.reached zs) (and_l (not (mem c.here.reached zs)) (eqb (length c.before) 0 || not (eqb (end_from v c.before) v)) (a c.before c.after c.here c.is)) m)
simple_there v ss a zero (suc j) l h e = (refl, go (ℕ_discrete (suc j) (length ss)))
  where
    go : Dec (suc j ≡ length ss) → suc j ≡ length ss
    go (yes p) = p
    go (no f) =
        let k = seen v ss (suc j) (suc j) (omega arith) (omega arith) in
        let c = k.at in
        let b : end_from v c.before ≡ v = sym (end_at v c.before) ∙ ap (λ (x : ℕ). get_or (v ∷ map (λ (s : Step). s.reached) c.before) x 0) c.so_far ∙ sym k.early ∙ sym e in
        let t = and_r (not (mem c.here.reached (map (λ (s : Step). s.reached) c.before))) (eqb (length c.before) 0 || not (eqb (end_from v c.before) v)) (a c.before c.after c.here c.is) in
        let Q : ℕ → Type 0 = λ x. T (eqb x v) in
        absurd (⊎_elim (λ (x : T (eqb (length c.before) 0)). let z : length c.before ≡ 0 = eqb→eq (length c.before) 0 x in omega (arith, c.so_far)) (λ (x : T (not (eqb (end_from v c.before) v))). T_not (eqb (end_from v c.before) v) x (subst Q (sym b) (eqb_refl v))) (or_cases (eqb (length c.before) 0) (not (eqb (end_from v c.before) v)) t))

simple_back : (v : ℕ) (ss : List Step) → Simple (record { start = v; steps = ss }) → Allowed simple (record { start = v; steps = ss })
simple_back v ss t before after s e = and_make (not (mem s.reached zs)) (eqb (length before) 0 || not (eqb (end_from v before) v)) fresh home
  where
    zs : List ℕ
    zs = map (λ (x : Step). x.reached) before

    P : List Step → Type 0
    P x = Simple (record { start = v; steps = x })

    t' : Simple (record { start = v; steps = before ++ (s ∷ after) })
    t' = subst P e t

    fresh : T (not (mem s.reached zs))
    fresh = not_T (mem s.reached zs) (λ m.
        let r = mem→index s.reached zs m in
        let k : r.0 < length before = omega (arith, length-map before (λ (x : Step). x.reached), r.1) in
        let w : get_or (map (λ (x : Step). x.reached) (before ++ (s ∷ after))) r.0 0 ≡ get_or (map (λ (x : Step). x.reached) (before ++ (s ∷ after))) (length before) 0 = at_before (λ (x : Step). x.reached) before (s ∷ after) r.0 k ∙ r.2 ∙ sym (at_split (λ (x : Step). x.reached) before after s) in
        omega (arith, (t' (suc r.0) (suc (length before)) (omega arith) (length_split before after s) w).0))

    home_case : Dec (length before ≡ 0) → T (eqb (length before) 0 || not (eqb (end_from v before) v))
    home_case (yes z) = or_left (eqb (length before) 0) (not (eqb (end_from v before) v)) (let Q : ℕ → Type 0 = λ x. T (eqb x 0) in subst Q (sym z) tt)
    home_case (no f) = or_right (eqb (length before) 0) (not (eqb (end_from v before) v)) (not_T (eqb (end_from v before) v) (λ x.
        let b : end_from v before ≡ v = eqb→eq (end_from v before) v x in
        let w : v ≡ get_or (v ∷ map (λ (y : Step). y.reached) (before ++ (s ∷ after))) (length before) 0 = sym b ∙ sym (end_at v before) ∙ sym (zone_before v before (s ∷ after) (length before) (omega arith)) in
        let l : 0 < length before = omega arith in
        let u : length before ≤ length (before ++ (s ∷ after)) = omega (arith, length_split before after s) in
        omega (arith, (t' 0 (length before) l u w).1, length_split before after s)))

    home : T (eqb (length before) 0 || not (eqb (end_from v before) v))
    home = home_case (ℕ_discrete (length before) 0)

-- different numbers below N are at most N
abbrev Fresh : ℕ → List ℕ → Type 0
Fresh p [] = Unit {0}
Fresh p (n ∷ ns) = (p ≡ n → ⊥) × Fresh p ns

abbrev Diff : List ℕ → Type 0
Diff [] = Unit {0}
Diff (n ∷ ns) = Fresh n ns × Diff ns

abbrev Under : ℕ → List ℕ → Type 0
Under N [] = Unit {0}
Under N (n ∷ ns) = (n < N) × Under N ns

abbrev pick : {p n : ℕ} → Dec (p ≡ n) → List ℕ → List ℕ → List ℕ
pick (yes e) xs ys = xs
pick (no f) xs ys = ys

abbrev minus : ℕ → List ℕ → List ℕ
minus p [] = []
minus p (n ∷ ns) = pick (ℕ_discrete p n) ns (n ∷ minus p ns)

minus_length : (p : ℕ) (ns : List ℕ) → length ns ≤ suc (length (minus p ns))
minus_length p [] = omega arith
minus_length p (n ∷ ns) = go (ℕ_discrete p n) (minus_length p ns)
  where
    go : (d : Dec (p ≡ n)) → length ns ≤ suc (length (minus p ns)) → suc (length ns) ≤ suc (length (pick d ns (n ∷ minus p ns)))
    go (yes e) h = omega arith
    go (no f) h = omega arith

minus_fresh : (p q : ℕ) (ns : List ℕ) → Fresh q ns → Fresh q (minus p ns)
minus_fresh p q [] h = tt
minus_fresh p q (n ∷ ns) h = go (ℕ_discrete p n) (minus_fresh p q ns h.1)
  where
    go : (d : Dec (p ≡ n)) → Fresh q (minus p ns) → Fresh q (pick d ns (n ∷ minus p ns))
    go (yes e) r = h.1
    go (no f) r = (h.0, r)

minus_diff : (p : ℕ) (ns : List ℕ) → Diff ns → Diff (minus p ns)
minus_diff p [] h = tt
minus_diff p (n ∷ ns) h = go (ℕ_discrete p n) (minus_diff p ns h.1)
  where
    go : (d : Dec (p ≡ n)) → Diff (minus p ns) → Diff (pick d ns (n ∷ minus p ns))
    go (yes e) r = h.1
    go (no f) r = (minus_fresh p n ns h.0, r)

under_fresh : (N : ℕ) (ns : List ℕ) → Under (suc N) ns → Fresh N ns → Under N ns
under_fresh N [] u f = tt
under_fresh N (n ∷ ns) u f = (let g = f.0 in let h = u.0 in low n h g, under_fresh N ns u.1 f.1)
  where
    low : (m : ℕ) → m < suc N → (N ≡ m → ⊥) → m < N
    low m h g = omega arith

minus_under : (N : ℕ) (ns : List ℕ) → Under (suc N) ns → Diff ns → Under N (minus N ns)
minus_under N [] u d = tt
minus_under N (n ∷ ns) u d = go (ℕ_discrete N n) (minus_under N ns u.1 d.1)
  where
    go : (b : Dec (N ≡ n)) → Under N (minus N ns) → Under N (pick b ns (n ∷ minus N ns))
    go (yes e) r = let P : ℕ → Type 0 = λ x. Fresh x ns in under_fresh N ns u.1 (subst P (sym e) d.0)
    go (no f) r = (let h = u.0 in low h, r)
      where
        low : n < suc N → n < N
        low h = omega arith

pub pigeon : (N : ℕ) (ns : List ℕ) → Under N ns → Diff ns → length ns ≤ N
pigeon zero [] u d = omega arith
pigeon zero (n ∷ ns) u d = absurd (let h = u.0 in none h)
  where
    none : n < 0 → ⊥
    none h = omega arith
pigeon (suc N) ns u d = omega (arith, minus_length N ns, pigeon N (minus N ns) (minus_under N ns u d) (minus_diff N ns d))

-- by index
fresh_index : (p : ℕ) (ns : List ℕ) → ((j : ℕ) → j < length ns → p ≡ get_or ns j 0 → ⊥) → Fresh p ns
fresh_index p [] h = tt
fresh_index p (n ∷ ns) h = (h zero (omega arith), fresh_index p ns (λ j b. h (suc j) (omega arith)))

diff_index : (ns : List ℕ) → ((i j : ℕ) → i < j → j < length ns → get_or ns i 0 ≡ get_or ns j 0 → ⊥) → Diff ns
diff_index [] h = tt
diff_index (n ∷ ns) h = (fresh_index n ns (λ j b. h zero (suc j) (omega arith) (omega arith)), diff_index ns (λ i j a b. h (suc i) (suc j) (omega arith) (omega arith)))

under_index : (N : ℕ) (ns : List ℕ) → ((i : ℕ) → i < length ns → get_or ns i 0 < N) → Under N ns
under_index N [] h = tt
under_index N (n ∷ ns) h = (h zero (omega arith), under_index N ns (λ i b. h (suc i) (omega arith)))

pub pigeons : (N : ℕ) (ns : List ℕ) → ((i : ℕ) → i < length ns → get_or ns i 0 < N) → ((i j : ℕ) → i < j → j < length ns → get_or ns i 0 ≡ get_or ns j 0 → ⊥) → length ns ≤ N
pigeons N ns u d = pigeon N ns (under_index N ns u) (diff_index ns d)

-- the laws
pub trail_short : (r : Route) → Plain r → Trail r → len r ≤ 256
trail_short r p t =
    let e : length (passages r) ≡ len r = length-map r.steps (λ (s : Step). s.number) in
    let h : length (passages r) ≤ 256 = pigeons 256 (passages r) (λ i b. p.number_low i (omega arith)) (λ i j a b. t i j a (omega arith)) in
    omega arith

acyclic_short : (r : Route) → Plain r → Acyclic r → len r ≤ 63
acyclic_short r p t =
    let e : length (map (λ (s : Step). s.reached) r.steps) ≡ len r = length-map r.steps (λ (s : Step). s.reached) in
    let h : length (zones_of r) ≤ 64 = pigeons 64 (zones_of r) (λ i b. p.reached_low i (omega arith)) (λ i j a b. t i j a (omega arith)) in
    omega arith

simple_short : (r : Route) → Plain r → Simple r → len r ≤ 64
simple_short r p t =
    let zs : List ℕ = map (λ (s : Step). s.reached) r.steps in
    let e : length zs ≡ len r = length-map r.steps (λ (s : Step). s.reached) in
    let h : length zs ≤ 64 = pigeons 64 zs (λ i b. p.reached_low (suc i) (omega arith)) (λ i j a b w. let x = (t (suc i) (suc j) (omega arith) (omega arith) w).0 in omega arith) in
    omega arith

acyclic_once : (r : Route) → Plain r → Acyclic r → Trail r
acyclic_once r p t i j a b e = t (suc i) (suc j) (omega arith) b (p.alike i j (omega arith) b e)

simple_once : (r : Route) → Plain r → Simple r → Trail r
simple_once r p t i j a b e = let x = (t (suc i) (suc j) (omega arith) b (p.alike i j (omega arith) b e)).0 in omega arith

pub restrictors : Restrictors
restrictors = record {
  trail_is = λ r. (trail_there r.start r.steps, trail_back r.start r.steps);
  acyclic_is = λ r. (acyclic_there r.start r.steps, acyclic_back r.start r.steps);
  simple_is = λ r. (simple_there r.start r.steps, simple_back r.start r.steps);
  trail_keeps = record { no_passage_twice = λ r p a. trail_there r.start r.steps a; no_longer = λ r p a. let h = trail_short r p (trail_there r.start r.steps a) in omega arith };
  acyclic_keeps = record { no_passage_twice = λ r p a. acyclic_once r p (acyclic_there r.start r.steps a); no_longer = λ r p a. let h = acyclic_short r p (acyclic_there r.start r.steps a) in omega arith };
  simple_keeps = record { no_passage_twice = λ r p a. simple_once r p (simple_there r.start r.steps a); no_longer = λ r p a. let h = simple_short r p (simple_there r.start r.steps a) in omega arith };
}

use Rattle.std.proofs.Common.{◌≡◌, ℕ, ◌+◌, ◌≤◌, ◌⊎◌, ◌↔◌, List, [], ◌∷◌, ◌++◌, sym, refl, ap, subst, inl, inr, arith}
use Rattle.automaton.specs.Readings.{Many, none, more, Chained}
use Rattle.automaton.specs.Run.{Set, Edges, Run, Frag, Accept, In, Means, then_frag, or_frag, star_frag, Stepped}

apart : {lo mid hi q : ℕ} → In lo mid q → In mid hi q → ⊥
apart a b = omega arith

many_map : {A : Type 0} {P Q : List A → Type 0} → ((w : List A) → P w → Q w) → (w : List A) → Many P w → Many Q w
many_map f _ none = none
many_map f _ (more {u = u} {v = v} p m) = more (f u p) (many_map f v m)

-- a run stays where it is defined, in another table that agrees there
pub run_map' : {A : Type 0} (At At' : ℕ → A → Type 0) (I : Set) (E E' : Edges) (L L' : Set) → ((q : ℕ) (x : A) → I q → At q x → At' q x)
    → ((s q : ℕ) → I s → E s q → E' s q × I q) → ((q : ℕ) → I q → L q → L' q) → (w : List A) (q : ℕ) → I q → Run At E L q w → Run At' E' L' q w
run_map' At At' I E E' L L' ha he hl [] q i r = hl q i r
run_map' At At' I E E' L L' ha he hl (x ∷ w) q i (s, e, a, r) = (s, (he q s i e).0, ha s x (he q s i e).1 a, run_map' At At' I E E' L L' ha he hl w s (he q s i e).1 r)

accept_move : {A : Type 0} (At At' : ℕ → A → Type 0) (I : Set) (E E' : Edges) (f f' : Frag) → ((q : ℕ) (x : A) → I q → At q x → At' q x)
    → (f.null → f'.null) → ((q : ℕ) → f.first q → f'.first q × I q)
    → ((s q : ℕ) → I s → E s q → E' s q × I q) → ((q : ℕ) → I q → f.last q → f'.last q) → (w : List A) → Accept At E f w → Accept At' E' f' w
accept_move At At' I E E' f f' ha hn hf he hl [] n = hn n
accept_move At At' I E E' f f' ha hn hf he hl (x ∷ w) (s, b, a, r) = (s, (hf s b).0, ha s x (hf s b).1 a, run_map' At At' I E E' f.last f'.last ha he hl w s (hf s b).1 r)

-- ---- the same fragment in other tables, which agree on the fragment's rows
pub move : {A : Type 0} {At At' : ℕ → A → Type 0} {E E' : Edges} {f f' : Frag} {lo hi : ℕ} {P : List A → Type 0} → Means At E f lo hi P
    → ((q : ℕ) (x : A) → In lo hi q → At q x ↔ At' q x) → f.null ↔ f'.null → ((q : ℕ) → f.first q ↔ f'.first q) → ((q : ℕ) → f.last q ↔ f'.last q)
    → ((s q : ℕ) → In lo hi s → E s q ↔ E' s q) → Means At' E' f' lo hi P
move {A} {At} {At'} {E} {E'} {f} {f'} {lo} {hi} m ha hn hf hl he = record {
  first_in = λ q b. m.first_in q ((hf q).1 b);
  last_in = λ q b. m.last_in q ((hl q).1 b);
  follow_in = λ s q i e. m.follow_in s q i ((he s q i).1 e);
  sound = λ w a. m.sound w (accept_move At' At (In lo hi) E' E f' f (λ q x i a. (ha q x i).1 a) hn.1 (λ q b. ((hf q).1 b, m.first_in q ((hf q).1 b))) (λ s q i e. ((he s q i).1 e, m.follow_in s q i ((he s q i).1 e))) (λ q _ l. (hl q).1 l) w a);
  complete = λ w p. accept_move At At' (In lo hi) E E' f f' (λ q x i a. (ha q x i).0 a) hn.0 (λ q b. ((hf q).0 b, m.first_in q b)) (λ s q i e. ((he s q i).0 e, m.follow_in s q i e)) (λ q _ l. (hl q).0 l) w (m.complete w p);
}

-- the language may be written otherwise
pub reword : {A : Type 0} {At : ℕ → A → Type 0} {E : Edges} {f : Frag} {lo hi : ℕ} {P Q : List A → Type 0} → ((w : List A) → P w ↔ Q w) → Means At E f lo hi P → Means At E f lo hi Q
reword h m = record { first_in = m.first_in; last_in = m.last_in; follow_in = m.follow_in; sound = λ w a. (h w).0 (m.sound w a); complete = λ w q. m.complete w ((h w).1 q) }

module _ {A : Type 0} (At : ℕ → A → Type 0) where
  run_map : (I : Set) (E E' : Edges) (L L' : Set) → ((s q : ℕ) → I s → E s q → E' s q × I q) → ((q : ℕ) → I q → L q → L' q) → (w : List A) (q : ℕ) → I q → Run At E L q w → Run At E' L' q w
  run_map I E E' L L' he hl w q i r = run_map' At At I E E' L L' (λ _ _ _ a. a) he hl w q i r

  -- ---- one fragment after another
  module _ (E : Edges) (f g : Frag) where
    abbrev pub seq_edges : Edges
    seq_edges s q = E s q ⊎ (f.last s × g.first q)

    seq_join_run : (u v : List A) (q : ℕ) → Run At E f.last q u → Accept At E g v → Run At seq_edges (then_frag f g).last q (u ++ v)
    seq_join_run [] [] q r a = inr (a, r)
    seq_join_run [] (y ∷ v) q r (s, b, a, t) = (s, inr (r, b), a, run_map (λ _. Unit {0}) E seq_edges g.last (then_frag f g).last (λ _ _ _ e. (inl e, tt)) (λ _ _ l. inl l) v s tt t)
    seq_join_run (x ∷ u) v q (s, e, a, r) t = (s, inl e, a, seq_join_run u v s r t)

    seq_join : (u v : List A) → Accept At E f u → Accept At E g v → Accept At seq_edges (then_frag f g) (u ++ v)
    seq_join [] [] n m = (n, m)
    seq_join [] (y ∷ v) n (s, b, a, t) = (s, inr (n, b), a, run_map (λ _. Unit {0}) E seq_edges g.last (then_frag f g).last (λ _ _ _ e. (inl e, tt)) (λ _ _ l. inl l) v s tt t)
    seq_join (x ∷ u) v (s, b, a, r) t = (s, inl b, a, seq_join_run u v s r t)

    module _ (I J : Set) (apart_at : (q : ℕ) → I q → J q → ⊥)
        (fl : (q : ℕ) → f.last q → I q) (fe : (s q : ℕ) → I s → E s q → I q)
        (gf : (q : ℕ) → g.first q → J q) (gl : (q : ℕ) → g.last q → J q) (ge : (s q : ℕ) → J s → E s q → J q) where
      seq_second : (w : List A) (q : ℕ) → J q → Run At seq_edges (then_frag f g).last q w → Run At E g.last q w
      seq_second w q j r = run_map J seq_edges E (then_frag f g).last g.last edge end w q j r
        where
          edge : (s t : ℕ) → J s → seq_edges s t → E s t × J t
          edge s t k (inl e) = (e, ge s t k e)
          edge s t k (inr (l, b)) = absurd (apart_at s (fl s l) k)

          end : (s : ℕ) → J s → (then_frag f g).last s → g.last s
          end s k (inl l) = l
          end s k (inr (n, l)) = absurd (apart_at s (fl s l) k)

      seq_split_run : (w : List A) (q : ℕ) → I q → Run At seq_edges (then_frag f g).last q w → Chained (Run At E f.last q) (Accept At E g) w
      seq_split_run [] q i (inl l) = absurd (apart_at q i (gl q l))
      seq_split_run [] q i (inr (n, l)) = ([], [], refl, l, n)
      seq_split_run (x ∷ w) q i (s, inl e, a, r) =
          let (u, v, p, r₁, r₂) = seq_split_run w s (fe q s i e) r in
          (x ∷ u, v, ap (λ y. x ∷ y) p, (s, e, a, r₁), r₂)
      seq_split_run (x ∷ w) q i (s, inr (l, b), a, r) = ([], x ∷ w, refl, l, (s, b, a, seq_second w s (gf s b) r))

      seq_split : ((q : ℕ) → f.first q → I q) → (w : List A) → Accept At seq_edges (then_frag f g) w → Chained (Accept At E f) (Accept At E g) w
      seq_split ff [] (n, m) = ([], [], refl, n, m)
      seq_split ff (x ∷ w) (s, inl b, a, r) =
          let (u, v, p, r₁, r₂) = seq_split_run w s (ff s b) r in
          (x ∷ u, v, ap (λ y. x ∷ y) p, (s, b, a, r₁), r₂)
      seq_split ff (x ∷ w) (s, inr (n, b), a, r) = ([], x ∷ w, refl, n, (s, b, a, seq_second w s (gf s b) r))

  pub means_seq : {E : Edges} {f g : Frag} {lo mid hi : ℕ} {P Q : List A → Type 0} → lo ≤ mid → mid ≤ hi
      → Means At E f lo mid P → Means At E g mid hi Q → Means At (seq_edges E f g) (then_frag f g) lo hi (Chained P Q)
  means_seq {E} {f} {g} {lo} {mid} {hi} {P} {Q} h k m n = record {
    first_in = λ q b. grind (arith, m.first_in q, n.first_in q);
    last_in = λ q b. grind (arith, m.last_in q, n.last_in q);
    follow_in = λ s q i e. grind (arith, m.follow_in s q, n.follow_in s q, n.first_in q);
    sound = λ w a. let (u, v, p, x, y) = split w a in (u, v, p, m.sound u x, n.sound v y);
    complete = λ w j. let (u, v, p, x, y) = j in subst (λ (z : List A). Accept At (seq_edges E f g) (then_frag f g) z) (sym p) (seq_join E f g u v (m.complete u x) (n.complete v y));
  }
    where
      split : (w : List A) → Accept At (seq_edges E f g) (then_frag f g) w → Chained (Accept At E f) (Accept At E g) w
      split = seq_split E f g (In lo mid) (In mid hi) (λ q a b. apart a b) m.last_in m.follow_in n.first_in n.last_in n.follow_in m.first_in

  -- ---- either of two fragments
  alt_l : (E : Edges) (f g : Frag) (w : List A) → Accept At E f w → Accept At E (or_frag f g) w
  alt_l E f g = accept_move At At (λ _. Unit {0}) E E f (or_frag f g) (λ _ _ _ a. a) inl (λ _ b. (inl b, tt)) (λ _ _ _ e. (e, tt)) (λ _ _ l. inl l)

  alt_r : (E : Edges) (f g : Frag) (w : List A) → Accept At E g w → Accept At E (or_frag f g) w
  alt_r E f g = accept_move At At (λ _. Unit {0}) E E g (or_frag f g) (λ _ _ _ a. a) inr (λ _ b. (inr b, tt)) (λ _ _ _ e. (e, tt)) (λ _ _ l. inr l)

  pub means_alt : {E : Edges} {f g : Frag} {lo mid hi : ℕ} {P Q : List A → Type 0} → lo ≤ mid → mid ≤ hi
      → Means At E f lo mid P → Means At E g mid hi Q → Means At E (or_frag f g) lo hi (λ w. P w ⊎ Q w)
  means_alt {E} {f} {g} {lo} {mid} {hi} {P} {Q} h k m n = record {
    first_in = λ q b. grind (arith, m.first_in q, n.first_in q);
    last_in = λ q b. grind (arith, m.last_in q, n.last_in q);
    follow_in = λ s q i e. grind (arith, m.follow_in s q, n.follow_in s q);
    sound = sounds;
    complete = completes;
  }
    where
      end_l : (q : ℕ) → In lo mid q → (or_frag f g).last q → f.last q
      end_l q i (inl l) = l
      end_l q i (inr l) = absurd (apart i (n.last_in q l))

      end_r : (q : ℕ) → In mid hi q → (or_frag f g).last q → g.last q
      end_r q i (inl l) = absurd (apart (m.last_in q l) i)
      end_r q i (inr l) = l

      sounds : (w : List A) → Accept At E (or_frag f g) w → P w ⊎ Q w
      sounds [] (inl a) = inl (m.sound [] a)
      sounds [] (inr a) = inr (n.sound [] a)
      sounds (x ∷ w) (s, inl b, a, r) = inl (m.sound (x ∷ w) (s, b, a, run_map (In lo mid) E E (or_frag f g).last f.last (λ s q i e. (e, m.follow_in s q i e)) end_l w s (m.first_in s b) r))
      sounds (x ∷ w) (s, inr b, a, r) = inr (n.sound (x ∷ w) (s, b, a, run_map (In mid hi) E E (or_frag f g).last g.last (λ s q i e. (e, n.follow_in s q i e)) end_r w s (n.first_in s b) r))

      completes : (w : List A) → P w ⊎ Q w → Accept At E (or_frag f g) w
      completes w (inl p) = alt_l E f g w (m.complete w p)
      completes w (inr p) = alt_r E f g w (n.complete w p)

  -- ---- zero or more, one or more
  module _ (E : Edges) (f : Frag) where
    abbrev pub loop_edges : Edges
    loop_edges s q = E s q ⊎ (f.last s × f.first q)

    loop_split : (w : List A) (q : ℕ) → Run At loop_edges f.last q w → Chained (Run At E f.last q) (Many (Accept At E f)) w
    loop_split [] q l = ([], [], refl, l, none)
    loop_split (x ∷ w) q (s, inl e, a, r) =
        let (u, v, p, r₁, m) = loop_split w s r in (x ∷ u, v, ap (λ y. x ∷ y) p, (s, e, a, r₁), m)
    loop_split (x ∷ w) q (s, inr (l, b), a, r) =
        let (u, v, p, r₁, m) = loop_split w s r in
        ([], x ∷ w, refl, l, subst (λ (z : List A). Many (Accept At E f) (x ∷ z)) (sym p) (more {u = x ∷ u} {v = v} (s, b, a, r₁) m))

    loop_join_run : (u v : List A) (q : ℕ) → Run At E f.last q u → Accept At loop_edges (star_frag f) v → Run At loop_edges f.last q (u ++ v)
    loop_join_run [] [] q l t = l
    loop_join_run [] (y ∷ v) q l (s, b, a, r) = (s, inr (l, b), a, r)
    loop_join_run (x ∷ u) v q (s, e, a, r) t = (s, inl e, a, loop_join_run u v s r t)

    loop_join : (u v : List A) → Accept At E f u → Accept At loop_edges (star_frag f) v → Accept At loop_edges (star_frag f) (u ++ v)
    loop_join [] v n t = t
    loop_join (x ∷ u) v (s, b, a, r) t = (s, b, a, loop_join_run u v s r t)

    loop_all : (w : List A) → Many (Accept At E f) w → Accept At loop_edges (star_frag f) w
    loop_all _ none = tt
    loop_all _ (more {u = u} {v = v} a m) = loop_join u v a (loop_all v m)

    star_split : (w : List A) → Accept At loop_edges (star_frag f) w → Many (Accept At E f) w
    star_split [] t = none
    star_split (x ∷ w) (s, b, a, r) =
        let (u, v, p, r₁, m) = loop_split w s r in
        subst (λ (z : List A). Many (Accept At E f) (x ∷ z)) (sym p) (more {u = x ∷ u} {v = v} (s, b, a, r₁) m)

    plus_split : (w : List A) → Accept At loop_edges f w → Chained (Accept At E f) (Many (Accept At E f)) w
    plus_split [] n = ([], [], refl, n, none)
    plus_split (x ∷ w) (s, b, a, r) =
        let (u, v, p, r₁, m) = loop_split w s r in (x ∷ u, v, ap (λ y. x ∷ y) p, (s, b, a, r₁), m)

    plus_join : (u v : List A) → Accept At E f u → Accept At loop_edges (star_frag f) v → Accept At loop_edges f (u ++ v)
    plus_join [] [] n t = n
    plus_join [] (y ∷ v) n t = t
    plus_join (x ∷ u) v (s, b, a, r) t = (s, b, a, loop_join_run u v s r t)

  module _ {E : Edges} {f : Frag} {lo hi : ℕ} {P : List A → Type 0} (m : Means At E f lo hi P) where
    loop_in : (s q : ℕ) → In lo hi s → loop_edges E f s q → In lo hi q
    loop_in s q i (inl e) = m.follow_in s q i e
    loop_in s q i (inr (_, b)) = m.first_in q b

    pub means_star : Means At (loop_edges E f) (star_frag f) lo hi (Many P)
    means_star = record {
      first_in = m.first_in;
      last_in = m.last_in;
      follow_in = loop_in;
      sound = λ w a. many_map m.sound w (star_split E f w a);
      complete = λ w p. loop_all E f w (many_map m.complete w p);
    }

    pub means_plus : Means At (loop_edges E f) f lo hi (Chained P (Many P))
    means_plus = record {
      first_in = m.first_in;
      last_in = m.last_in;
      follow_in = loop_in;
      sound = λ w a. let (u, v, p, x, y) = plus_split E f w a in (u, v, p, m.sound u x, many_map m.sound v y);
      complete = λ w j. let (u, v, p, x, y) = j in subst (λ (z : List A). Accept At (loop_edges E f) f z) (sym p) (plus_join E f u v (m.complete u x) (loop_all E f v (many_map m.complete v y)));
    }

  -- ---- one name
  abbrev pub name_frag : ℕ → Frag
  name_frag p = record { null = ⊥; first = λ q. q ≡ p; last = λ q. q ≡ p }

  name_sound : (E : Edges) (p : ℕ) → ((q : ℕ) → E p q → ⊥) → (w : List A) → Accept At E (name_frag p) w → (x : A) × (w ≡ x ∷ []) × At p x
  name_sound E p h [] a = absurd a
  name_sound E p h (x ∷ []) (s, b, a, r) = (x, refl, subst (λ (z : ℕ). At z x) b a)
  name_sound E p h (x ∷ (y ∷ w)) (s, b, a, (t, e, _, _)) = absurd (h t (subst (λ (z : ℕ). E z t) b e))

  pub means_name : (E : Edges) (p : ℕ) → ((q : ℕ) → E p q → ⊥) → Means At E (name_frag p) p (p + 1) (λ w. (x : A) × (w ≡ x ∷ []) × At p x)
  means_name E p h = record {
    first_in = λ q b. omega arith;
    last_in = λ q b. omega arith;
    follow_in = λ s q i e. let z : s ≡ p = omega arith in absurd (h q (subst (λ (y : ℕ). E y q) z e));
    sound = name_sound E p h;
    complete = λ w j. let (x, e, a) = j in subst (λ (z : List A). Accept At E (name_frag p) z) (sym e) (p, refl, a, refl);
  }

-- ---- from masks to runs: the sets that stepping reaches
pub stepped_run : {A : Type 0} (At : ℕ → A → Type 0) (E : Edges) (L M : Set) (w : List A)
    → ((q : ℕ) × Stepped At E M w q × L q) ↔ ((s : ℕ) × M s × Run At E L s w)
stepped_run At E L M [] = (λ h. h, λ h. h)
stepped_run {A} At E L M (x ∷ w) = (there (stepped_run At E L (λ t. ((s : ℕ) × M s × E s t) × At t x) w).0, back (stepped_run At E L (λ t. ((s : ℕ) × M s × E s t) × At t x) w).1)
  where
    N : Set
    N t = ((s : ℕ) × M s × E s t) × At t x

    there : ((q : ℕ) × Stepped At E N w q × L q → (t : ℕ) × N t × Run At E L t w) → (q : ℕ) × Stepped At E N w q × L q → (s : ℕ) × M s × ((t : ℕ) × E s t × At t x × Run At E L t w)
    there f h = let (t, ((s, m, e), a), r) = f h in (s, m, (t, e, a, r))

    back : ((t : ℕ) × N t × Run At E L t w → (q : ℕ) × Stepped At E N w q × L q) → (s : ℕ) × M s × ((t : ℕ) × E s t × At t x × Run At E L t w) → (q : ℕ) × Stepped At E N w q × L q
    back f (s, m, (t, e, a, r)) = f (t, ((s, m, e), a), r)

step_set : {A : Type 0} → (ℕ → A → Type 0) → Edges → Set → A → Set
step_set At E M x t = ((s : ℕ) × M s × E s t) × At t x

-- one more letter at the end
pub stepped_snoc : {A : Type 0} (At : ℕ → A → Type 0) (E : Edges) (M : Set) (w : List A) (x : A) (q : ℕ)
    → Stepped At E M (w ++ (x ∷ [])) q ↔ (((s : ℕ) × Stepped At E M w s × E s q) × At q x)
stepped_snoc At E M [] x q = (λ h. h, λ h. h)
stepped_snoc At E M (y ∷ w) x q = stepped_snoc At E (λ t. ((s : ℕ) × M s × E s t) × At t y) w x q

-- a start state z before the fragment
pub started : {A : Type 0} {At : ℕ → A → Type 0} {E E' : Edges} {f : Frag} {lo hi : ℕ} {P : List A → Type 0} (z : ℕ) (L : Set) → Means At E f lo hi P
    → (In lo hi z → ⊥) → ((s q : ℕ) → In lo hi s → E s q ↔ E' s q) → ((q : ℕ) → E' z q ↔ f.first q) → ((q : ℕ) → L q ↔ (f.last q ⊎ (f.null × (q ≡ z))))
    → (w : List A) → Run At E' L z w ↔ P w
started {A} {At} {E} {E'} {f} {lo} {hi} {P} z L m out he hz hl w = (λ r. m.sound w (there w r), λ p. back w (m.complete w p))
  where
    last_of : (q : ℕ) → In lo hi q → f.last q ⊎ (f.null × (q ≡ z)) → f.last q
    last_of q i (inl l) = l
    last_of q i (inr (_, e)) = absurd (out (subst (λ (y : ℕ). In lo hi y) e i))

    null_of : f.last z ⊎ (f.null × (z ≡ z)) → f.null
    null_of (inl l) = absurd (out (m.last_in z l))
    null_of (inr (n, _)) = n

    there : (w : List A) → Run At E' L z w → Accept At E f w
    there [] r = null_of ((hl z).0 r)
    there (x ∷ w) (s, e, a, r) = (s, (hz s).0 e, a, run_map' At At (In lo hi) E' E L f.last (λ _ _ _ y. y) (λ t q i y. ((he t q i).1 y, m.follow_in t q i ((he t q i).1 y))) (λ q i l. last_of q i ((hl q).0 l)) w s (m.first_in s ((hz s).0 e)) r)

    back : (w : List A) → Accept At E f w → Run At E' L z w
    back [] n = (hl z).1 (inr (n, refl))
    back (x ∷ w) (s, b, a, r) = (s, (hz s).1 b, a, run_map' At At (In lo hi) E E' f.last L (λ _ _ _ y. y) (λ t q i y. ((he t q i).0 y, m.follow_in t q i y)) (λ q i l. (hl q).1 (inl l)) w s (m.first_in s b) r)

pub recognised : {A : Type 0} (At : ℕ → A → Type 0) (E : Edges) (L : Set) (z : ℕ) (P : List A → Type 0) → ((w : List A) → Run At E L z w ↔ P w)
    → (w : List A) → ((q : ℕ) × Stepped At E (λ s. s ≡ z) w q × L q) ↔ P w
recognised At E L z P h w = (
  λ a. let (s, e, r) = (stepped_run At E L (λ s. s ≡ z) w).0 a in (h w).0 (subst (λ (y : ℕ). Run At E L y w) e r),
  λ p. (stepped_run At E L (λ s. s ≡ z) w).1 (z, refl, (h w).1 p),
)

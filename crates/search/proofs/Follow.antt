-- What is left to list behind a position.
use Rattle.std.proofs.Common.{◌≡◌, ℕ, ◌+◌, ◌%◌, true, false, ◌⊎◌, List, [], ◌∷◌, Some, None, Option, sym, refl, ap, ◌∙◌, subst, inl, inr, ⊎_elim, arith}
use Rattle.route.specs.Tracks.{Taken, Track}
use Rattle.search.specs.Spaces.{Code, Space, grow, Goal, Before, Earlier, Onward, Begins, Nothing, Sought}
use Rattle.search.specs.Listings.{code_of, codes_on, codes_of, route_at, StandingOn, Follows, Followed}
use Rattle.search.proofs.Searches.{asym, irr, onward_all, answer_down, answer_up, grow_down, answer_none}

-- w goes on from xs, and with what P says
abbrev pub Goes : List Taken → (List Code → Type 0) → List Code → Type 0
Goes xs P w = (v : List Code) × (w ≡ codes_on xs v) × P v

-- w branches off behind the route xs
abbrev pub Off : List Taken → List Code → Type 0
Off [] w = ⊥
Off (x ∷ xs) w = Goes xs (Begins (Before (code_of x))) w ⊎ Off xs w

-- w is behind the position: below the route xs from (p, m) on, or behind it
abbrev pub Past : List Taken → ℕ → ℕ → List Code → Type 0
Past xs p m w = Goes xs (Begins (Onward p m)) w ⊎ Off xs w

pub earlier_asym : (u v : List Code) → Earlier u v → Earlier v u → ⊥
earlier_asym [] [] a b = a
earlier_asym [] (d ∷ v) a b = b
earlier_asym (c ∷ u) [] a b = a
earlier_asym (c ∷ u) (d ∷ v) (inl a) (inl b) = asym c d a b
earlier_asym (c ∷ u) (d ∷ v) (inl a) (inr b) = irr c d a b.0
earlier_asym (c ∷ u) (d ∷ v) (inr a) (inl b) = irr d c b a.0
earlier_asym (c ∷ u) (d ∷ v) (inr a) (inr b) = earlier_asym u v a.1 b.1

pub cancel : (xs : List Taken) (a b : List Code) → Earlier (codes_on xs a) (codes_on xs b) → Earlier a b
cancel [] a b h = h
cancel (x ∷ xs) a b h = ⊎_elim (λ k. absurd (irr (code_of x) (code_of x) k refl)) (λ k. k.1) (cancel xs (code_of x ∷ a) (code_of x ∷ b) h)

-- what comes later than a route with a added: it goes on from the route, later than a, or branches off
pub later_to : (xs : List Taken) (a w : List Code) → Earlier (codes_on xs a) w → Goes xs (Earlier a) w ⊎ Off xs w
later_to [] a w h = inl (w, refl, h)
later_to (x ∷ xs) a w h = ⊎_elim (λ k. go k.0 k.1 k.2) (λ k. inr (inr k)) (later_to xs (code_of x ∷ a) w h)
  where
    go : (v : List Code) → w ≡ codes_on xs v → Earlier (code_of x ∷ a) v → Goes (x ∷ xs) (Earlier a) w ⊎ Off (x ∷ xs) w
    go [] e k = absurd k
    go (d ∷ v) e (inl k) = inr (inl (d ∷ v, e, k))
    go (d ∷ v) e (inr k) = inl (v, e ∙ ap (λ (c : Code). codes_on xs (c ∷ v)) (sym k.0), k.1)

pub later_from : (xs : List Taken) (a w : List Code) → Goes xs (Earlier a) w ⊎ Off xs w → Earlier (codes_on xs a) w
later_from [] a w (inl h) = subst (Earlier a) (sym h.1) h.2
later_from [] a w (inr h) = absurd h
later_from (x ∷ xs) a w (inl h) = later_from xs (code_of x ∷ a) w (inl (code_of x ∷ h.0, h.1, inr (refl, h.2)))
later_from (x ∷ xs) a w (inr (inl h)) = later_from xs (code_of x ∷ a) w (inl (h.0, h.1, before h.0 h.2))
  where
    before : (v : List Code) → Begins (Before (code_of x)) v → Earlier (code_of x ∷ a) v
    before [] k = k
    before (d ∷ v) k = inl k
later_from (x ∷ xs) a w (inr (inr h)) = later_from xs (code_of x ∷ a) w (inr h)

begins_all : (v : List Code) → Earlier [] v → Begins (Onward 0 0) v
begins_all [] h = h
begins_all (d ∷ v) h = onward_all d

all_begins : (v : List Code) → Begins (Onward 0 0) v → Earlier [] v
all_begins [] h = h
all_begins (d ∷ v) h = tt

pub past_to : (xs : List Taken) (w : List Code) → Earlier (codes_on xs []) w → Past xs 0 0 w
past_to xs w h = ⊎_elim (λ k. inl (k.0, k.1, begins_all k.0 k.2)) (λ k. inr k) (later_to xs [] w h)

pub past_from : (xs : List Taken) (w : List Code) → Past xs 0 0 w → Earlier (codes_on xs []) w
past_from xs w h = later_from xs [] w (⊎_elim (λ k. inl (k.0, k.1, all_begins k.0 k.2)) (λ k. inr k) h)

-- behind x is from x and its next mark on
before_onward : (x : Taken) (v : List Code) → Begins (Before (code_of x)) v → Begins (Onward x.passage (x.mark + 1)) v
before_onward x [] h = h
before_onward x (d ∷ v) (inl h) = inl h
before_onward x (d ∷ v) (inr h) = inr (sym h.0, omega (arith, h.1))

onward_before : (x : Taken) (v : List Code) → Begins (Onward x.passage (x.mark + 1)) v → Begins (Before (code_of x)) v
onward_before x [] h = h
onward_before x (d ∷ v) (inl h) = inl h
onward_before x (d ∷ v) (inr h) = inr (sym h.0, omega (arith, h.1))

module _ (t : Space) (z : ℕ) where
  pub answer_to : (xs : List Taken) (v : List Code) → StandingOn t z xs → Goal t (route_at z []) (codes_on xs v) → Goal t (route_at z xs) v
  answer_to [] v s a = a
  answer_to (x ∷ xs) v s a = answer_down t (route_at z xs) (code_of x) v (x.zone, x.mask) s.1 (answer_to xs (code_of x ∷ v) s.0 a)

  pub answer_from : (xs : List Taken) (v : List Code) → StandingOn t z xs → Goal t (route_at z xs) v → Goal t (route_at z []) (codes_on xs v)
  answer_from [] v s a = a
  answer_from (x ∷ xs) v s a = answer_from xs (code_of x ∷ v) s.0 (answer_up t (route_at z xs) (code_of x) v (x.zone, x.mask) s.1 a)

  -- what an answer below a standing route grows to
  pub record Grown (xs : List Taken) (v : List Code) : Type 0 where
    pub starts : (grow t (route_at z xs) v).start ≡ z
    pub stands : StandingOn t z (grow t (route_at z xs) v).steps
    pub codes : codes_of (grow t (route_at z xs) v) ≡ codes_on xs v

  pub grown : (v : List Code) (xs : List Taken) → StandingOn t z xs → Goal t (route_at z xs) v → Grown xs v
  grown [] xs s a = record { starts = refl; stands = s; codes = refl }
  grown (c ∷ v) xs s a = go (grown v) (t.reach (route_at z xs) c) refl
    where
      go : ((ys : List Taken) → StandingOn t z ys → Goal t (route_at z ys) v → Grown ys v) → (o : Option (ℕ × ℕ)) → t.reach (route_at z xs) c ≡ o → Grown xs (c ∷ v)
      go ih None e = absurd (answer_none t (route_at z xs) c v e a)
      go ih (Some y) e =
          let x : Taken = record { passage = c.passage; zone = y.0; mark = c.mark; mask = y.1 } in
          let g = grow_down t (route_at z xs) c v y e in
          let h = ih (x ∷ xs) (s, e) (answer_down t (route_at z xs) c v y e a) in
          record { starts = ap (λ (r : Track). r.start) g ∙ h.starts; stands = subst (λ (r : Track). StandingOn t z r.steps) (sym g) h.stands; codes = ap codes_of g ∙ h.codes }

  -- what is left to list is what is behind the position
  pub record Rest (u : List Code) (xs : List Taken) (p m : ℕ) : Type 0 where
    pub stands : StandingOn t z xs
    pub to : (w : List Code) → Goal t (route_at z []) w → Earlier u w → Past xs p m w
    pub from : (w : List Code) → Past xs p m w → Earlier u w

  pub rest_start : (xs : List Taken) → StandingOn t z xs → Rest (codes_on xs []) xs 0 0
  rest_start xs s = record { stands = s; to = λ w a h. past_to xs w h; from = past_from xs }

  pub rest_pop : (u : List Code) (x : Taken) (xs : List Taken) (p m : ℕ) → Rest u (x ∷ xs) p m → Nothing t (route_at z (x ∷ xs)) (Onward p m) → Rest u xs x.passage (x.mark + 1)
  rest_pop u x xs p m r n = record { stands = r.stands.0; to = to; from = from }
    where
      to : (w : List Code) → Goal t (route_at z []) w → Earlier u w → Past xs x.passage (x.mark + 1) w
      to w a h = ⊎_elim
          (λ k. absurd (n k.0 k.2 (answer_to (x ∷ xs) k.0 r.stands (subst (Goal t (route_at z [])) k.1 a))))
          (λ k. ⊎_elim (λ l. inl (l.0, l.1, before_onward x l.0 l.2)) (λ l. inr l) k)
          (r.to w a h)

      from : (w : List Code) → Past xs x.passage (x.mark + 1) w → Earlier u w
      from w h = r.from w (inr (⊎_elim (λ l. inl (l.0, l.1, onward_before x l.0 l.2)) (λ l. inr l) h))

  pub rest_none : (u : List Code) (p m : ℕ) → Rest u [] p m → Nothing t (route_at z []) (Onward p m) → (w : List Code) → Goal t (route_at z []) w → Earlier u w → ⊥
  rest_none u p m r n w a h = ⊎_elim (λ k. n k.0 k.2 (subst (Goal t (route_at z [])) k.1 a)) (λ k. k) (r.to w a h)

  pub rest_found : (u : List Code) (xs : List Taken) (p m : ℕ) (e : Track) → Rest u xs p m → Sought t (route_at z xs) (Onward p m) true e → Follows t z u e
  unfolding Sought
  rest_found u xs p m e r q =
      let v = q.0 in
      let g = grown v xs r.stands q.2.answer in
      let starts : e.start ≡ z = ap (λ (r : Track). r.start) q.1 ∙ g.starts in
      let on : StandingOn t z e.steps = subst (λ (r : Track). StandingOn t z r.steps) (sym q.1) g.stands in
      let codes : codes_of e ≡ codes_on xs v = ap codes_of q.1 ∙ g.codes in
      record {
        starts = starts;
        stands = subst (λ (y : ℕ). StandingOn t y e.steps) (sym starts) on;
        answer = subst (Goal t (route_at z [])) (sym codes) (answer_from xs v r.stands q.2.answer);
        later = subst (Earlier u) (sym codes) (r.from (codes_on xs v) (inl (v, refl, q.2.begins)));
        least = λ w a h k.
            let k' : Earlier w (codes_on xs v) = subst (Earlier w) codes k in
            ⊎_elim
            (λ l. q.2.least l.0 l.2 (answer_to xs l.0 r.stands (subst (Goal t (route_at z [])) l.1 a)) (cancel xs l.0 v (subst (λ (y : List Code). Earlier y (codes_on xs v)) l.1 k')))
            (λ l. earlier_asym (codes_on xs v) w (later_from xs v w (inr l)) k')
            (r.to w a h);
      }

  pub followed_true : (s e : Track) → s.start ≡ z → Follows t z (codes_of s) e → Followed t s true e
  unfolding Followed
  followed_true s e p h = subst (λ (y : ℕ). Follows t y (codes_of s) e) (sym p) h

  pub followed_false : (s e : Track) → s.start ≡ z → ((w : List Code) → Goal t (route_at z []) w → Earlier (codes_of s) w → ⊥) → Followed t s false e
  unfolding Followed
  followed_false s e p h = subst (λ (y : ℕ). (w : List Code) → Goal t (route_at y []) w → Earlier (codes_of s) w → ⊥) (sym p) h

pub rest_mark : {t : Space} {z : ℕ} {u : List Code} {xs : List Taken} {p : ℕ} (m n : ℕ) → n % 9 ≡ n → m ≡ n + 1 → Rest t z u xs p m → Rest t z u xs p (n % 9 + 1)
rest_mark {t} {z} {u} {xs} {p} m n e q h = subst (λ (k : ℕ). Rest t z u xs p k) (q ∙ ap (λ (k : ℕ). k + 1) (sym e)) h

-- How searches below a route are put together.
use Rattle.std.proofs.Common.{◌≡◌, ℕ, zero, suc, ◌+◌, ◌<◌, ◌≤◌, Bool, true, false, ◌⊎◌, List, [], ◌∷◌, Some, None, Option, sym, refl, ap, ◌∙◌, subst, inl, inr, ⊎_elim, eq-zero-or-pos, arith}
use Rattle.route.specs.Tracks.{Track}
use Rattle.search.specs.Spaces.{Code, Space, added, grow, Goal, Before, Earlier, Only, Marks, Onward, Between, Begins, First, Nothing, Sought}

pub code_is : (c : Code) (p m : ℕ) → c.passage ≡ p → c.mark ≡ m → c ≡ record { passage = p; mark = m }
code_is c p m e f = λ i. record { passage = e i; mark = f i }

pub onward_all : (c : Code) → Onward 0 0 c
onward_all c = go c.passage c.mark
  where
    go : (p m : ℕ) → (0 < p) ⊎ ((p ≡ 0) × (0 ≤ m))
    go p m = ⊎_elim (λ e. inr (e, omega arith)) (λ l. inl l) (eq-zero-or-pos p)

pub asym : (c d : Code) → Before c d → Before d c → ⊥
asym c d (inl a) (inl b) = omega arith
asym c d (inl a) (inr b) = omega arith
asym c d (inr a) (inl b) = omega arith
asym c d (inr a) (inr b) = omega arith

pub irr : (c d : Code) → Before c d → d ≡ c → ⊥
irr c d (inl a) e = omega (arith, ap (λ (x : Code). x.passage) e)
irr c d (inr a) e = omega (arith, ap (λ (x : Code). x.mark) e)

-- two numbers, by their order
pub data ByOrder (m n : ℕ) : Type 0 where
  lower : m < n → ByOrder m n
  same : m ≡ n → ByOrder m n
  higher : n < m → ByOrder m n

pub by_order : (m n : ℕ) → ByOrder m n
by_order zero zero = same refl
by_order zero (suc n) = lower (omega arith)
by_order (suc m) zero = higher (omega arith)
by_order (suc m) (suc n) = elim (by_order m n) [ lower h ↦ lower (omega arith) | same h ↦ same (omega arith) | higher h ↦ higher (omega arith) ]

pub not_both : (b : Bool) → b ≡ true → b ≡ false → ⊥
not_both b p q = let z : ◌≡◌ {A = ℕ} 0 1 = cc in omega arith

module _ (t : Space) where
  pub answer_none : (s : Track) (c : Code) (u : List Code) → t.reach s c ≡ None → Goal t s (c ∷ u) → ⊥
  answer_none s c u e a =
      let F : Option (ℕ × ℕ) → Type 0 = λ o. elim o [ Some x ↦ Goal t (added s c x) u | None ↦ ⊥ ] in subst F e a

  pub answer_down : (s : Track) (c : Code) (u : List Code) (x : ℕ × ℕ) → t.reach s c ≡ Some x → Goal t s (c ∷ u) → Goal t (added s c x) u
  answer_down s c u x e a =
      let F : Option (ℕ × ℕ) → Type 0 = λ o. elim o [ Some y ↦ Goal t (added s c y) u | None ↦ ⊥ ] in subst F e a

  pub answer_up : (s : Track) (c : Code) (u : List Code) (x : ℕ × ℕ) → t.reach s c ≡ Some x → Goal t (added s c x) u → Goal t s (c ∷ u)
  answer_up s c u x e a =
      let F : Option (ℕ × ℕ) → Type 0 = λ o. elim o [ Some y ↦ Goal t (added s c y) u | None ↦ ⊥ ] in subst F (sym e) a

  pub grow_down : (s : Track) (c : Code) (u : List Code) (x : ℕ × ℕ) → t.reach s c ≡ Some x → grow t s (c ∷ u) ≡ grow t (added s c x) u
  grow_down s c u x e =
      let f : Option (ℕ × ℕ) → Track = λ o. elim o [ Some y ↦ grow t (added s c y) u | None ↦ s ] in ap f e

  pub down_at : (s : Track) (p m : ℕ) (x : ℕ × ℕ) (d : Code) (w : List Code) → t.reach s (record { passage = p; mark = m }) ≡ Some x → Only p m d → Goal t s (d ∷ w) →
      Goal t (added s (record { passage = p; mark = m }) x) w
  down_at s p m x d w r b a =
      let F : Code → Type 0 = λ y. Goal t s (y ∷ w) in
      answer_down s (record { passage = p; mark = m }) w x r (subst F (code_is d p m b.0 b.1) a)

  -- what a search that found nothing says
  pub kept : (s : Track) (Q : Code → Type 0) (e : Track) → Sought t s Q false e → e ≡ s
  unfolding Sought
  kept s Q e h = h.0

  pub nothing : (s : Track) (Q : Code → Type 0) (e : Track) → Sought t s Q false e → Nothing t s Q
  unfolding Sought
  nothing s Q e h = h.1

  pub sought_nothing : (s : Track) (Q : Code → Type 0) (e : Track) → e ≡ s → Nothing t s Q → Sought t s Q false e
  unfolding Sought
  sought_nothing s Q e p h = (p, h)

  -- one step
  pub only_none : (s : Track) (p m : ℕ) → t.reach s (record { passage = p; mark = m }) ≡ None → Nothing t s (Only p m)
  only_none s p m e [] b a = b
  only_none s p m e (c ∷ u) b a = answer_none s c u (ap (t.reach s) (code_is c p m b.0 b.1) ∙ e) a

  pub only_here : (s : Track) (p m : ℕ) (x : ℕ × ℕ) (e : Track) → t.reach s (record { passage = p; mark = m }) ≡ Some x →
      t.final (added s (record { passage = p; mark = m }) x) ≡ true → e ≡ added s (record { passage = p; mark = m }) x → Sought t s (Only p m) true e
  unfolding Sought
  only_here s p m x e r f q =
      let c : Code = record { passage = p; mark = m } in
      (c ∷ [], q ∙ sym (grow_down s c [] x r), record { begins = (refl, refl); answer = answer_up s c [] x r f; least = least })
    where
      least : (v : List Code) → Begins (Only p m) v → Goal t s v → Earlier v (record { passage = p; mark = m } ∷ []) → ⊥
      least [] b a h = b
      least (d ∷ []) b a (inl (inl h)) = omega arith
      least (d ∷ []) b a (inl (inr h)) = omega arith
      least (d ∷ []) b a (inr h) = h.1
      least (d ∷ (w ∷ ws)) b a (inl (inl h)) = omega arith
      least (d ∷ (w ∷ ws)) b a (inl (inr h)) = omega arith
      least (d ∷ (w ∷ ws)) b a (inr h) = h.1

  pub only_below : (s : Track) (p m : ℕ) (x : ℕ × ℕ) (e : Track) → t.reach s (record { passage = p; mark = m }) ≡ Some x →
      t.final (added s (record { passage = p; mark = m }) x) ≡ false → Sought t (added s (record { passage = p; mark = m }) x) (Onward 0 0) true e → Sought t s (Only p m) true e
  unfolding Sought
  only_below s p m x e r f q =
      let c : Code = record { passage = p; mark = m } in
      (c ∷ q.0, q.1 ∙ sym (grow_down s c q.0 x r), record { begins = (refl, refl); answer = answer_up s c q.0 x r q.2.answer; least = least })
    where
      least : (v : List Code) → Begins (Only p m) v → Goal t s v → Earlier v (record { passage = p; mark = m } ∷ q.0) → ⊥
      least [] b a h = b
      least (d ∷ []) b a h = not_both _ (down_at s p m x d [] r b a) f
      least (d ∷ (w ∷ ws)) b a (inl (inl h)) = omega arith
      least (d ∷ (w ∷ ws)) b a (inl (inr h)) = omega arith
      least (d ∷ (w ∷ ws)) b a (inr h) = q.2.least (w ∷ ws) (onward_all w) (down_at s p m x d (w ∷ ws) r b a) h.1

  pub only_dead : (s : Track) (p m : ℕ) (x : ℕ × ℕ) → t.reach s (record { passage = p; mark = m }) ≡ Some x →
      t.final (added s (record { passage = p; mark = m }) x) ≡ false → Nothing t (added s (record { passage = p; mark = m }) x) (Onward 0 0) → Nothing t s (Only p m)
  only_dead s p m x r f n [] b a = b
  only_dead s p m x r f n (d ∷ []) b a = not_both _ (down_at s p m x d [] r b a) f
  only_dead s p m x r f n (d ∷ (w ∷ ws)) b a = n (w ∷ ws) (onward_all w) (down_at s p m x d (w ∷ ws) r b a)

  -- a set in which nothing was found, then one in which something was, then the rest
  pub settle : (s : Track) (P Q R : Code → Type 0) (e : Track) → Nothing t s P → Sought t s Q true e → ((c : Code) → Q c → R c) →
      ((c d : Code) → Q c → R d → P d ⊎ (Q d ⊎ Before c d)) → Sought t s R true e
  unfolding Sought
  settle s P Q R e n q sub split = go q.0 q.1 q.2
    where
      go : (u : List Code) → e ≡ grow t s u → First t s Q u → (u : List Code) × (e ≡ grow t s u) × First t s R u
      go [] g f = absurd f.begins
      go (c ∷ u) g f = (c ∷ u, g, record { begins = sub c f.begins; answer = f.answer; least = least })
        where
          least : (v : List Code) → Begins R v → Goal t s v → Earlier v (c ∷ u) → ⊥
          least [] b a h = b
          least (d ∷ w) b a h = ⊎_elim (λ x. n (d ∷ w) x a) (⊎_elim (λ x. f.least (d ∷ w) x a h) (λ x. ⊎_elim (asym c d x) (λ y. irr c d x y.0) h)) (split c d f.begins b)

  pub nothing_join : (s : Track) (P Q R : Code → Type 0) → Nothing t s P → Nothing t s Q → ((d : Code) → R d → P d ⊎ Q d) → Nothing t s R
  nothing_join s P Q R m n split [] b a = b
  nothing_join s P Q R m n split (d ∷ w) b a = ⊎_elim (λ x. m (d ∷ w) x a) (λ x. n (d ∷ w) x a) (split d b)

  pub sought_at : (s s' : Track) (Q : Code → Type 0) (b : Bool) (e : Track) → s' ≡ s → Sought t s' Q b e → Sought t s Q b e
  sought_at s s' Q b e p h = subst (λ (x : Track). Sought t x Q b e) p h

  -- the marks of one passage in turn
  pub marks_found : (s : Track) (p from mark : ℕ) (e : Track) → from ≤ mark → Nothing t s (Between p from mark) → Sought t s (Only p mark) true e → Sought t s (Marks p from) true e
  marks_found s p from mark e l n h = settle s (Between p from mark) (Only p mark) (Marks p from) e n h (λ c o. (o.0, omega (arith, o.1))) split
    where
      split : (c d : Code) → Only p mark c → Marks p from d → Between p from mark d ⊎ (Only p mark d ⊎ Before c d)
      split c d o m = elim (by_order d.mark mark) [ lower x ↦ inl (m.0, m.1, x) | same x ↦ inr (inl (m.0, x)) | higher x ↦ inr (inr (inr (o.0 ∙ sym m.0, omega (arith, o.1)))) ]

  pub marks_on : (s : Track) (p from mark : ℕ) → Nothing t s (Between p from mark) → Nothing t s (Only p mark) → Nothing t s (Between p from (mark + 1))
  marks_on s p from mark n o = nothing_join s (Between p from mark) (Only p mark) (Between p from (mark + 1)) n o split
    where
      split : (d : Code) → Between p from (mark + 1) d → Between p from mark d ⊎ Only p mark d
      split d b = elim (by_order d.mark mark) [ lower x ↦ inl (b.0, b.1, x) | same x ↦ inr (b.0, x) | higher x ↦ absurd (omega (arith, b.2)) ]

  pub final_at : (s s' : Track) (r b : Bool) → s' ≡ s → r ≡ t.final s' → r ≡ b → t.final s ≡ b
  final_at s s' r b e f g = ap t.final (sym e) ∙ sym f ∙ g

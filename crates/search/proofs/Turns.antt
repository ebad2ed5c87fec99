-- One turn of the search for the answer that follows.
use Rattle.std.proofs.Common.{◌≡◌, ℕ, ◌+◌, ◌-◌, ◌<◌, true, false, List, [], ◌∷◌, sym, ap, ◌∙◌, subst}
use Rattle.route.specs.Tracks.{Taken, Track, popped, tail}
use Rattle.route.specs.Reading.{taken_at, taken_of, track_of}
use Rattle.search.specs.Spaces.{Code, Space, Goal, Earlier, Onward, Nothing, Sought}
use Rattle.search.specs.Listings.{route_at, StandingOn, Follows}
use Rattle.route.specs.declared.Route.{Route}
use Rattle.search.proofs.Searches.{kept, nothing, sought_at}
use Rattle.route.proofs.Views.{taken_none, taken_last}
use Rattle.search.proofs.Follow.{Rest, rest_found, rest_none, rest_pop}

module _ (t : Space) (z : ℕ) (u : List Code) (l r : Route) (p m : ℕ) (starts : l.start ≡ z) (rest : Rest t z u (taken_of (taken_at l) l.len) p m) where
  pub turn_found : Sought t (track_of l) (Onward p m) true (track_of r) → Follows t z u (track_of r)
  turn_found h = rest_found t z u (taken_of (taken_at l) l.len) p m (track_of r) rest (sought_at t _ (track_of l) _ _ _ (ap (λ (y : ℕ). route_at y (taken_of (taken_at l) l.len)) starts) h)

  below : Sought t (track_of l) (Onward p m) false (track_of r) → Nothing t (route_at z (taken_of (taken_at l) l.len)) (Onward p m)
  below h = nothing t _ _ _ (sought_at t _ (track_of l) _ _ _ (ap (λ (y : ℕ). route_at y (taken_of (taken_at l) l.len)) starts) h)

  same_steps : Sought t (track_of l) (Onward p m) false (track_of r) → taken_of (taken_at l) l.len ≡ taken_of (taken_at r) r.len
  same_steps h = ap (λ (s : Track). s.steps) (sym (kept t _ _ _ h))

  pub turn_starts : Sought t (track_of l) (Onward p m) false (track_of r) → r.start ≡ z
  turn_starts h = ap (λ (s : Track). s.start) (kept t _ _ _ h) ∙ starts

  pub turn_none : Sought t (track_of l) (Onward p m) false (track_of r) → r.len ≡ 0 → (w : List Code) → Goal t (route_at z []) w → Earlier u w → ⊥
  turn_none h e =
      let q : taken_of (taken_at l) l.len ≡ [] = same_steps h ∙ taken_none (taken_at r) r.len e in
      rest_none t z u p m (subst (λ (xs : List Taken). Rest t z u xs p m) q rest) (subst (λ (xs : List Taken). Nothing t (route_at z xs) (Onward p m)) q (below h))

  pub turn_stands : Sought t (track_of l) (Onward p m) false (track_of r) → 0 < r.len → StandingOn t z (taken_at r (r.len - 1) ∷ taken_of (taken_at r) (r.len - 1))
  turn_stands h e = subst (StandingOn t z) (same_steps h ∙ taken_last (taken_at r) r.len e) rest.stands

  pub turn_pop : (q : Route) → Sought t (track_of l) (Onward p m) false (track_of r) → 0 < r.len → track_of q ≡ popped (track_of r) →
      Rest t z u (taken_of (taken_at q) q.len) (taken_at r (r.len - 1)).passage ((taken_at r (r.len - 1)).mark + 1)
  turn_pop q h e o =
      let s : taken_of (taken_at l) l.len ≡ taken_at r (r.len - 1) ∷ taken_of (taken_at r) (r.len - 1) = same_steps h ∙ taken_last (taken_at r) r.len e in
      let y = rest_pop t z u (taken_at r (r.len - 1)) (taken_of (taken_at r) (r.len - 1)) p m (subst (λ (xs : List Taken). Rest t z u xs p m) s rest) (subst (λ (xs : List Taken). Nothing t (route_at z xs) (Onward p m)) s (below h)) in
      let v : taken_of (taken_at r) (r.len - 1) ≡ taken_of (taken_at q) q.len = sym (ap (λ (x : Track). x.steps) o ∙ ap tail (taken_last (taken_at r) r.len e)) in
      subst (λ (xs : List Taken). Rest t z u xs (taken_at r (r.len - 1)).passage ((taken_at r (r.len - 1)).mark + 1)) v y

-- From the answer that follows to the answer that is delivered.
use Rattle.std.proofs.Common.{◌≡◌, ℕ, Bool, true, false, List, [], ◌∷◌, sym, refl, ap, ◌∙◌, subst}
use Rattle.route.specs.Tracks.{Track}
use Rattle.search.specs.Spaces.{Code, Space, Goal, Earlier}
use Rattle.search.specs.Listings.{Standing, codes_of, route_at, Followed, ToCome, Delivered}
use Rattle.search.specs.Trails.{trail, begun}
use Rattle.search.specs.declared.progress.Progress.{Progress}
use Rattle.search.specs.declared.progress.Progress.TheVariants.{AtFront, Behind}
use Rattle.search.proofs.Searches.{not_both}

none_earlier : (w : List Code) → Earlier w [] → ⊥
none_earlier [] h = h
none_earlier (c ∷ w) h = h

deliver_at : (t : Space) (z : ℕ) → t.final (route_at z []) ≡ true → Delivered t false (route_at z []) true (route_at z [])
unfolding Delivered
deliver_at t z f = record { starts = refl; stands = tt; answer = f; later = tt; least = λ w a h k. none_earlier w k }

-- The start itself is the first answer.
pub first_delivered : (t : Space) (p : Progress) (z : ℕ) (s : Track) → p ≡ AtFront z → s ≡ trail p → t.final s ≡ true → Delivered t (begun p) (trail p) true s
first_delivered t p z s at same f =
    let here : s ≡ route_at z [] = same ∙ ap trail at in
    let P : Progress → Track → Type 0 = λ q x. Delivered t (begun q) (trail q) true x in
    subst (λ (q : Progress). P q s) (sym at) (subst (P (AtFront z)) (sym here) (deliver_at t z (subst (λ (x : Track). t.final x ≡ true) here f)))

-- A listing that has begun, or whose start is no answer.
abbrev pub Passed : Space → Progress → Type 0
Passed t (AtFront z) = t.final (route_at z []) ≡ false
Passed t (Behind r) = Unit {0}

pub passed_front : (t : Space) (p : Progress) (z : ℕ) (s : Track) → p ≡ AtFront z → s ≡ trail p → t.final s ≡ false → Passed t p
passed_front t p z s at same f = subst (Passed t) (sym at) (subst (λ (x : Track). t.final x ≡ false) (same ∙ ap trail at) f)

to_earlier : (t : Space) (z : ℕ) → t.final (route_at z []) ≡ false → (w : List Code) → Goal t (route_at z []) w → Earlier [] w
to_earlier t z f [] a = not_both _ a f
to_earlier t z f (c ∷ w) a = tt

same_to : (t : Space) (p : Progress) → Passed t p → (w : List Code) → Goal t (route_at (trail p).start []) w → ToCome (begun p) (codes_of (trail p)) w → Earlier (codes_of (trail p)) w
same_to t (AtFront z) f w a h = to_earlier t z f w a
same_to t (Behind r) f w a h = h

same_from : (p : Progress) (u w : List Code) → Earlier u w → ToCome (begun p) u w
same_from (AtFront z) u w h = tt
same_from (Behind r) u w h = h

-- The answer that follows the track s, at which the listing stands, is delivered; where none follows, none is.
module _ (t : Space) (p : Progress) (s e : Track) (passed : Passed t p) (same : s ≡ trail p) where
  pub deliver_found : (Standing t s → Followed t s true e) → Standing t (trail p) → Delivered t (begun p) (trail p) true e
  unfolding Delivered Followed
  deliver_found f st =
      let h = subst (λ (x : Track). Standing t x → Followed t x true e) same f st in
      record { starts = h.starts; stands = h.stands; answer = h.answer; later = same_from p _ _ h.later; least = λ w a k l. h.least w a (same_to t p passed w a k) l }

  pub deliver_none : (d : Track) → (Standing t s → Followed t s false e) → Standing t (trail p) → Delivered t (begun p) (trail p) false d
  unfolding Delivered Followed
  deliver_none d f st w a k = subst (λ (x : Track). Standing t x → Followed t x false e) same f st w a (same_to t p passed w a k)

  pub delivered : (r : Bool) → (Standing t s → Followed t s r e) → Standing t (trail p) → Delivered t (begun p) (trail p) r e
  delivered true f st = deliver_found f st
  delivered false f st = deliver_none e f st

-- Where no answer is to come, it is no matter at which track that is said.
pub none_comes : (t : Space) (b r : Bool) (s e d : Track) → r ≡ false → Delivered t b s r e → Delivered t b s r d
unfolding Delivered
none_comes t b true s e d f h = absurd (not_both true refl f)
none_comes t b false s e d f h = h

pub none_left : (t : Space) (b r : Bool) (s e d : Track) → r ≡ false → Delivered t b s r e → Delivered t b s false d
none_left t b r s e d f h = subst (λ (x : Bool). Delivered t b s x d) f (none_comes t b r s e d f h)

-- The route record as a stack, in its two views: the track (newest first, with marks and masks) and the route (oldest
-- first, without them).
use Rattle.std.proofs.Common.{◌≡◌, ℕ, zero, suc, ◌+◌, ◌-◌, ◌<◌, ◌≢◌, List, [], ◌∷◌, ◌++◌, length, get_or, take, set, sym, refl, ap, ◌∙◌, ap₂, add-one, arith, length-append, get_or-set_other, get_or-set_same}
use lib.Seq.{take-append_seam}
use Rattle.model.specs.Routes as model
use Rattle.model.specs.Routes.{Step, end_from}
use Rattle.route.specs.Tracks.{Taken, Track, extend, tail, popped, last_zone, bare_step, bare_steps, bare, longer}
use Rattle.route.specs.Reading.{step_at, steps_of, route_of, taken_at, taken_of, track_of, AtStart, AtStep, Written}
use Rattle.route.specs.declared.Route.{Route}

-- The two views agree: the route is the track in turn, without marks and masks.
pub steps_agree : (r : Route) (n : ℕ) → steps_of (step_at r) n ≡ bare_steps (taken_of (taken_at r) n)
unfolding steps_of taken_of
steps_agree r zero = refl
steps_agree r (suc n) = ap (λ (ss : List Step). ss ++ (step_at r n ∷ [])) (steps_agree r n)

pub views_agree : (r : Route) → route_of r ≡ bare (track_of r)
views_agree r = λ i. record { start = r.start; steps = steps_agree r r.len i }

-- Steps are equal if their four numbers are.
pub taken_path : {p p' z z' m m' k k' : ℕ} → p ≡ p' → z ≡ z' → m ≡ m' → k ≡ k' → ◌≡◌ {A = Taken} (record { passage = p; zone = z; mark = m; mask = k }) (record { passage = p'; zone = z'; mark = m'; mask = k' })
taken_path a b c d = λ i. record { passage = a i; zone = b i; mark = c i; mask = d i }

-- How many steps there are.
pub length_taken : (f : ℕ → Taken) (n : ℕ) → length (taken_of f n) ≡ n
unfolding taken_of
length_taken f zero = refl
length_taken f (suc n) = ap suc (length_taken f n)

pub length_steps : (f : ℕ → Step) (n : ℕ) → length (steps_of f n) ≡ n
unfolding steps_of
length_steps f zero = refl
length_steps f (suc n) = length-append (steps_of f n) (f n ∷ []) ∙ ap (λ (k : ℕ). k + 1) (length_steps f n) ∙ add-one n

-- Sequences that agree on their first n places have the same first n steps.
pub taken_same : (f g : ℕ → Taken) (n : ℕ) → ((k : ℕ) → k < n → f k ≡ g k) → taken_of f n ≡ taken_of g n
unfolding taken_of
taken_same f g zero h = refl
taken_same f g (suc n) h = ap₂ (λ x xs. x ∷ xs) (h n (omega arith)) (taken_same f g n (λ k l. h k (omega arith)))

-- The newest step, and what is left without it.
pub taken_none : (f : ℕ → Taken) (n : ℕ) → n ≡ 0 → taken_of f n ≡ []
unfolding taken_of
taken_none f zero e = refl
taken_none f (suc n) e = absurd (omega arith)

pub taken_last : (f : ℕ → Taken) (n : ℕ) → 0 < n → taken_of f n ≡ f (n - 1) ∷ taken_of f (n - 1)
unfolding taken_of
taken_last f zero l = absurd (omega arith)
taken_last f (suc n) l = let e : n ≡ suc n - 1 = omega arith in ap (λ (k : ℕ). f k ∷ taken_of f k) e

pub taken_more : (f g : ℕ → Taken) (n : ℕ) (x : Taken) → f n ≡ x → ((k : ℕ) → k < n → f k ≡ g k) → taken_of f (n + 1) ≡ x ∷ taken_of g n
unfolding taken_of
taken_more f g n x e h = rw add-one (ap₂ (λ y ys. y ∷ ys) e (taken_same f g n h))

steps_none : (f : ℕ → Step) (n : ℕ) → n ≡ 0 → steps_of f n ≡ []
unfolding steps_of
steps_none f zero e = refl
steps_none f (suc n) e = absurd (omega arith)

steps_last : (f : ℕ → Step) (n : ℕ) → 0 < n → steps_of f n ≡ steps_of f (n - 1) ++ (f (n - 1) ∷ [])
unfolding steps_of
steps_last f zero l = absurd (omega arith)
steps_last f (suc n) l = let e : n ≡ suc n - 1 = omega arith in ap (λ (k : ℕ). steps_of f k ++ (f k ∷ [])) e

-- Where a route ends, and a track.
end_snoc : (v : ℕ) (ss : List Step) (s : Step) → end_from v (ss ++ (s ∷ [])) ≡ s.reached
end_snoc v [] s = refl
end_snoc v (x ∷ ss) s = end_snoc x.reached ss s

pub last_end : (z : ℕ) (xs : List Taken) → last_zone z xs ≡ end_from z (bare_steps xs)
last_end z [] = refl
last_end z (x ∷ xs) = sym (end_snoc z (bare_steps xs) (bare_step x))

-- A new record.
pub fresh_track : (r : Route) (z : ℕ) → r.start ≡ z → r.len ≡ 0 → track_of r ≡ record { start = z; steps = [] }
fresh_track r z s e = λ i. record { start = s i; steps = taken_none (taken_at r) r.len e i }

pub fresh_route : (r : Route) (z : ℕ) → r.start ≡ z → r.len ≡ 0 → route_of r ≡ record { start = z; steps = [] }
fresh_route r z s e = λ i. record { start = s i; steps = steps_none (step_at r) r.len e i }

-- The record at its end.
pub at_start : (r : Route) → r.len ≡ 0 → AtStart r
at_start r e = record { none = e; track = taken_none (taken_at r) r.len e; route = steps_none (step_at r) r.len e }

pub at_step : (r : Route) → 0 < r.len → AtStep r (r.len - 1)
at_step r l =
    let n : ℕ = r.len - 1 in
    let s = steps_last (step_at r) r.len l in
    let k : length (steps_of (step_at r) n) ≡ length (steps_of (step_at r) r.len) - 1 = omega (arith, length_steps (step_at r) n, length_steps (step_at r) r.len) in
    record {
      place = omega arith;
      count = omega (arith, length_steps (step_at r) r.len);
      track = taken_last (taken_at r) r.len l;
      before = sym (take-append_seam (steps_of (step_at r) n) (step_at r n ∷ [])) ∙ ap (take (length (steps_of (step_at r) n))) (sym s) ∙ ap (λ (j : ℕ). take j (steps_of (step_at r) r.len)) k;
      ends = ap (end_from r.start) s ∙ end_snoc r.start (steps_of (step_at r) n) (step_at r n);
    }

-- One entry written: an array at the place written, and elsewhere.
array_here : (a b : List ℕ) (n v : ℕ) → b ≡ set a n v → n < length a → get_or b n 0 ≡ v
array_here a b n v e l = ap (λ (c : List ℕ). get_or c n 0) e ∙ get_or-set_same a n v 0 l

array_before : (a b : List ℕ) (n v k : ℕ) → b ≡ set a n v → k < n → get_or b k 0 ≡ get_or a k 0
array_before a b n v k e l = let ne : k ≢ n = omega arith in ap (λ (c : List ℕ). get_or c k 0) e ∙ get_or-set_other a n k v 0 ne

-- The arrays have a place for one more entry.
pub record Room (r : Route) : Type 0 where
  pub passages : r.len < length r.passages
  pub zones : r.len < length r.zones
  pub marks : r.len < length r.marks
  pub masks : r.len < length r.masks

pub track_push : (r q : Route) (x : Taken) → Room r → Written r q x → track_of q ≡ extend (track_of r) x
track_push r q x m w = λ i. record { start = w.start i; steps = steps i }
  where
    here : taken_at q r.len ≡ x
    here = taken_path (array_here _ _ _ _ w.passages m.passages) (array_here _ _ _ _ w.zones m.zones) (array_here _ _ _ _ w.marks m.marks) (array_here _ _ _ _ w.masks m.masks)

    before : (k : ℕ) → k < r.len → taken_at q k ≡ taken_at r k
    before k l = taken_path (array_before _ _ _ _ k w.passages l) (array_before _ _ _ _ k w.zones l) (array_before _ _ _ _ k w.marks l) (array_before _ _ _ _ k w.masks l)

    steps : taken_of (taken_at q) q.len ≡ x ∷ taken_of (taken_at r) r.len
    steps = ap (taken_of (taken_at q)) w.len ∙ taken_more (taken_at q) (taken_at r) r.len x here before

-- A step more or less in one view is a step more or less in the other.
pub routes_push : (q r : Route) (x : Taken) → track_of q ≡ extend (track_of r) x → route_of q ≡ longer (route_of r) (bare_step x)
routes_push q r x e = views_agree q ∙ ap bare e ∙ ap (λ (v : model.Route). longer v (bare_step x)) (sym (views_agree r))

-- How long a record is, by its track.
pub len_same : (q r : Route) → track_of q ≡ track_of r → q.len ≡ r.len
len_same q r e = sym (length_taken (taken_at q) q.len) ∙ ap (λ (x : Track). length x.steps) e ∙ length_taken (taken_at r) r.len

pub len_push : (q r : Route) (x : Taken) → track_of q ≡ extend (track_of r) x → q.len ≡ suc r.len
len_push q r x e = sym (length_taken (taken_at q) q.len) ∙ ap (λ (x : Track). length x.steps) e ∙ ap suc (length_taken (taken_at r) r.len)

pub len_pop : (q r : Route) → track_of q ≡ popped (track_of r) → 0 < r.len → q.len < r.len
len_pop q r e l =
    let h : q.len ≡ length (tail (taken_of (taken_at r) r.len)) = sym (length_taken (taken_at q) q.len) ∙ ap (λ (x : Track). length x.steps) e in
    let k : length (tail (taken_of (taken_at r) r.len)) ≡ r.len - 1 = ap (λ (x : List Taken). length (tail x)) (taken_last (taken_at r) r.len l) ∙ length_taken (taken_at r) (r.len - 1) in
    omega arith

-- The first fault that the tests find is the first fault of the file.
use Rattle.std.proofs.Common.{◌≡◌, ℕ, zero, suc, ◌+◌, ◌-◌, ◌<◌, ◌≤◌, min, Bool, true, false, cond, not, ◌||◌, eqb, ltb, leb, ◌⊎◌, List, length, is_some, Some, None, Option, sym, refl, ap, ◌∙◌, subst, inl, inr, arith, ltb-false, ltb-true, ne_eqb, eqb-true, leb-false, leb-true}
use native.Mathlib.Decide.{dec_lt}
use borrow.Author.Tests.{eqb-false, not-true}
use Rattle.std.proofs.lemmas.Bool.{or_cases, or_parts}
use Rattle.fault.specs.declared.PlanFault.{PlanFault}
use Rattle.fault.specs.declared.PlanFault.TheVariants.{Short, Zones, Passages, Length, Entry, Repeated, Destination, Kind}
use Rattle.plan.specs.First.{when, or_else, first_below}
use Rattle.plan.specs.FirstFacts.{or_left, or_right, when_none, none_at, Came, came}
use Rattle.plan.specs.Filed.{zone_count_of, count_of, size_of, entry_of, entry_place, body_place_lem, number_of, destination_of, kind_of, body_below_lem, head_fault, bad_entry_lem, entry_fault, body_fault, file_fault, Framed}
use Rattle.plan.specs.FiledFacts.{framed, entry_fits, entry_zero, entry_step, fine, no_some}
use Rattle.plan.specs.FiledLaw.{Breaks, under_three, no_zone, over_64, over_256, other_length, not_from_0, falls, passes, repeats, leads_out, no_kind, turn, FirstFault, KeepsRules}

-- what a rule that is broken early says
record Turned (b : List ℕ) (g : PlanFault) : Type 0 where
  short : turn g ≡ 0 → length b < 3
  zones : turn g ≡ 1 → 1 ≤ zone_count_of b → zone_count_of b ≤ 64 → ⊥
  many : turn g ≡ 2 → 256 < count_of b
  sized : turn g ≡ 3 → length b ≡ size_of b → ⊥

past_turns : (b : List ℕ) (g : PlanFault) → 4 ≤ turn g → Turned b g
past_turns b g l = record { short = λ e. omega arith; zones = λ e m n. omega arith; many = λ e. omega arith; sized = λ e m. omega arith }

turned : (b : List ℕ) {g : PlanFault} → Breaks b g → Turned b g
turned b (under_three l) = record { short = λ e. l; zones = λ e m n. omega arith; many = λ e. omega arith; sized = λ e m. omega arith }
turned b (no_zone l) = record { short = λ e. omega arith; zones = λ e m n. omega arith; many = λ e. omega arith; sized = λ e m. omega arith }
turned b (over_64 l) = record { short = λ e. omega arith; zones = λ e m n. omega arith; many = λ e. omega arith; sized = λ e m. omega arith }
turned b (over_256 l) = record { short = λ e. omega arith; zones = λ e m n. omega arith; many = λ e. l; sized = λ e m. omega arith }
turned b (other_length l) = record { short = λ e. omega arith; zones = λ e m n. omega arith; many = λ e. omega arith; sized = λ e m. l m }
turned b (not_from_0 l) = past_turns b _ (omega arith)
turned b (falls z h l) = past_turns b _ (omega arith)
turned b (passes z h l) = past_turns b _ (omega arith)
turned b (repeats j i k h l) = past_turns b _ (omega arith)
turned b (leads_out i h l) = past_turns b _ (omega arith)
turned b (no_kind i h l) = past_turns b _ (omega arith)

-- past the first tests nothing that comes early is broken
past_length : (b : List ℕ) → 3 ≤ length b → (g : PlanFault) → Breaks b g → 1 ≤ turn g
past_length b l g y = let n : turn g ≡ 0 → ⊥ = λ e. omega (arith, (turned b y).short e) in omega (arith, n)

past_zones : (b : List ℕ) → 3 ≤ length b → 1 ≤ zone_count_of b → zone_count_of b ≤ 64 → (g : PlanFault) → Breaks b g → 2 ≤ turn g
past_zones b l m h g y = let p = past_length b l g y in let n : turn g ≡ 1 → ⊥ = λ e. (turned b y).zones e m h in omega (arith, n)

past_count : (b : List ℕ) → 3 ≤ length b → 1 ≤ zone_count_of b → zone_count_of b ≤ 64 → count_of b ≤ 256 → (g : PlanFault) → Breaks b g → 3 ≤ turn g
past_count b l m h c g y = let p = past_zones b l m h g y in let n : turn g ≡ 2 → ⊥ = λ e. omega (arith, (turned b y).many e) in omega (arith, n)

past_head : (b : List ℕ) → Framed b → (g : PlanFault) → Breaks b g → 4 ≤ turn g
past_head b r g y =
    let p = past_count b r.long r.some_zone r.few_zones r.few_passages g y in
    let n : turn g ≡ 3 → ⊥ = λ e. (turned b y).sized e r.sized in
    omega (arith, n)

-- past the entries below z nothing before the entry of z is broken
module _ (b : List ℕ) (r : Framed b) where
  sound_entry : (z y : ℕ) → y < z → first_below (entry_fault b) z ≡ None → bad_entry_lem b y ≡ false
  sound_entry z y l e = when_none (bad_entry_lem b y) _ (none_at (entry_fault b) y z l e)

  past_entries : (z : ℕ) → z ≤ zone_count_of b → first_below (entry_fault b) z ≡ None → {g : PlanFault} → Breaks b g → 4 + entry_place z ≤ turn g
  past_entries z m e (under_three l) = absurd (omega (arith, past_head b r _ (under_three l)))
  past_entries z m e (no_zone l) = absurd (omega (arith, past_head b r _ (no_zone l)))
  past_entries z m e (over_64 l) = absurd (omega (arith, past_head b r _ (over_64 l)))
  past_entries z m e (over_256 l) = absurd (omega (arith, past_head b r _ (over_256 l)))
  past_entries z m e (other_length l) = absurd (omega (arith, past_head b r _ (other_length l)))
  past_entries z m e (not_from_0 l) = elim (dec_lt 0 z) [ yes h ↦ absurd (l (entry_zero b (sound_entry z 0 h e))) | no h ↦ omega arith ]
  past_entries z m e (falls y h l) = elim (dec_lt (suc y) z) [ yes q ↦ absurd (omega (arith, entry_step b y (sound_entry z (suc y) q e))) | no q ↦ omega arith ]
  past_entries z m e (passes y h l) = elim (dec_lt y z) [ yes q ↦ absurd (omega (arith, entry_fits b y (sound_entry z y q e))) | no q ↦ omega arith ]
  past_entries z m e (repeats j i k h l) = omega arith
  past_entries z m e (leads_out i h l) = omega arith
  past_entries z m e (no_kind i h l) = omega arith

  -- past all entries, the bodies below i and the first k tests of body i
  module _ (entries : first_below (entry_fault b) (zone_count_of b) ≡ None) (i k : ℕ) (bodies : first_below (body_fault b) i ≡ None) (few : k ≤ 2) (fresh : 1 ≤ k → body_below_lem b (number_of b i) i ≡ None) (inside : 2 ≤ k → destination_of b i < zone_count_of b) (m : i ≤ count_of b) where
    entry_broken : {g : PlanFault} → Breaks b g → turn g < 4 + entry_place (zone_count_of b) → ⊥
    entry_broken y l = omega (arith, past_entries (zone_count_of b) (omega arith) entries y)

    no_repeat : (j h : ℕ) → j < h → body_below_lem b (number_of b h) h ≡ None → number_of b j ≡ number_of b h → ⊥
    no_repeat j h l e q = eqb-false (number_of b j) (number_of b h) (when_none (eqb (number_of b j) (number_of b h)) j (none_at (λ x. when (eqb (number_of b x) (number_of b h)) x) j h l e)) q

    past_bodies : {g : PlanFault} → Breaks b g → 4 + body_place_lem b i + k ≤ turn g
    past_bodies (under_three l) = absurd (omega (arith, past_head b r _ (under_three l)))
    past_bodies (no_zone l) = absurd (omega (arith, past_head b r _ (no_zone l)))
    past_bodies (over_64 l) = absurd (omega (arith, past_head b r _ (over_64 l)))
    past_bodies (over_256 l) = absurd (omega (arith, past_head b r _ (over_256 l)))
    past_bodies (other_length l) = absurd (omega (arith, past_head b r _ (other_length l)))
    past_bodies (not_from_0 l) = let q = r.some_zone in absurd (entry_broken (not_from_0 l) (omega arith))
    past_bodies (falls y h l) = absurd (entry_broken (falls y h l) (omega arith))
    past_bodies (passes y h l) = absurd (entry_broken (passes y h l) (omega arith))
    past_bodies (repeats j h l n q) = elim (dec_lt h i) [
      | yes p ↦ absurd (no_repeat j h l (fine b h (none_at (body_fault b) h i p bodies)).fresh q)
      | no p ↦ elim (dec_lt i h) [
        | yes o ↦ omega arith
        | no o ↦ elim (dec_lt 0 k) [
          | yes u ↦ absurd (let e : i ≡ h = omega arith in no_repeat j h l (subst (λ (x : ℕ). body_below_lem b (number_of b x) x ≡ None) e (fresh u)) q)
          | no u ↦ omega arith
        ]
      ]
    ]
    past_bodies (leads_out h n l) = elim (dec_lt h i) [
      | yes p ↦ absurd (omega (arith, (fine b h (none_at (body_fault b) h i p bodies)).inside))
      | no p ↦ elim (dec_lt i h) [
        | yes o ↦ omega arith
        | no o ↦ elim (dec_lt 1 k) [
          | yes u ↦ absurd (let e : i ≡ h = omega arith in omega (arith, subst (λ (x : ℕ). destination_of b x < zone_count_of b) e (inside u)))
          | no u ↦ omega arith
        ]
      ]
    ]
    past_bodies (no_kind h n l) = elim (dec_lt h i) [
      | yes p ↦ absurd (omega (arith, (fine b h (none_at (body_fault b) h i p bodies)).kind))
      | no p ↦ omega arith
    ]

  last_turn : {g : PlanFault} → Breaks b g → turn g < 4 + body_place_lem b (count_of b)
  last_turn (under_three l) = omega arith
  last_turn (no_zone l) = omega arith
  last_turn (over_64 l) = omega arith
  last_turn (over_256 l) = omega arith
  last_turn (other_length l) = omega arith
  last_turn (not_from_0 l) = let q = r.some_zone in omega arith
  last_turn (falls y h l) = omega arith
  last_turn (passes y h l) = omega arith
  last_turn (repeats j h l n q) = omega arith
  last_turn (leads_out h n l) = omega arith
  last_turn (no_kind h n l) = omega arith

keeps : (b : List ℕ) → head_fault b ≡ None → first_below (entry_fault b) (zone_count_of b) ≡ None → first_below (body_fault b) (count_of b) ≡ None → KeepsRules b
keeps b h e f g y =
    let r = framed b h in
    omega (arith, last_turn b r y, past_bodies b r e (count_of b) 0 f (omega arith) (λ l. absurd (omega arith)) (λ l. absurd (omega arith)) (omega arith) y)

-- one test after another
split_when : (t : Bool) (x : PlanFault) (o : Option PlanFault) (f : PlanFault) → or_else (when t x) o ≡ Some f → ((t ≡ true) × (x ≡ f)) ⊎ ((t ≡ false) × (o ≡ Some f))
split_when true x o f e = inl (refl, cc)
split_when false x o f e = inr (refl, e)

last_when : (t : Bool) (x f : PlanFault) → when t x ≡ Some f → (t ≡ true) × (x ≡ f)
last_when true x f e = (refl, cc)
last_when false x f e = absurd (let z : ◌≡◌ {A = ℕ} 0 1 = cc in omega arith)

split_or : (o p : Option PlanFault) (f : PlanFault) → or_else o p ≡ Some f → (o ≡ Some f) ⊎ ((o ≡ None) × (p ≡ Some f))
split_or (Some x) p f e = inl e
split_or None p f e = inr (refl, e)

be : (b : List ℕ) {f g : PlanFault} → f ≡ g → FirstFault b f → FirstFault b g
be b e y = subst (FirstFault b) e y

head_first : (b : List ℕ) (f : PlanFault) → head_fault b ≡ Some f → FirstFault b f
head_first b f e = first (split_when (ltb (length b) 3) (Short (length b)) _ f e)
  where
    sized : 3 ≤ length b → 1 ≤ zone_count_of b → zone_count_of b ≤ 64 → count_of b ≤ 256 → ((not (eqb (length b) (size_of b)) ≡ true) × (Length (min (length b) (size_of b)) ≡ f)) → FirstFault b f
    sized l m h c y = be b y.1 (record { broken = other_length (eqb-false (length b) (size_of b) (not-true _ y.0)); first = λ g q. past_count b l m h c g q })

    counted : 3 ≤ length b → 1 ≤ zone_count_of b → zone_count_of b ≤ 64 → ((ltb 256 (count_of b) ≡ true) × (Passages 1 ≡ f)) ⊎ ((ltb 256 (count_of b) ≡ false) × (when (not (eqb (length b) (size_of b))) (Length (min (length b) (size_of b))) ≡ Some f)) → FirstFault b f
    counted l m h (inl y) = be b y.1 (record { broken = over_256 (ltb-true 256 (count_of b) y.0); first = λ g q. past_zones b l m h g q })
    counted l m h (inr y) = sized l m h (ltb-false 256 (count_of b) y.0) (last_when (not (eqb (length b) (size_of b))) (Length (min (length b) (size_of b))) f y.1)

    zoned : 3 ≤ length b → (((eqb (zone_count_of b) 0 || ltb 64 (zone_count_of b)) ≡ true) × (Zones 0 ≡ f)) ⊎ (((eqb (zone_count_of b) 0 || ltb 64 (zone_count_of b)) ≡ false) × (or_else (when (ltb 256 (count_of b)) (Passages 1)) (when (not (eqb (length b) (size_of b))) (Length (min (length b) (size_of b)))) ≡ Some f)) → FirstFault b f
    zoned l (inl y) = be b y.1 (record {
      broken = elim (or_cases (eqb (zone_count_of b) 0) (ltb 64 (zone_count_of b)) y.0) [ inl q ↦ no_zone (eqb-true (zone_count_of b) 0 q) | inr q ↦ over_64 (ltb-true 64 (zone_count_of b) q) ];
      first = λ g q. past_length b l g q;
    })
    zoned l (inr y) =
        let n = or_parts (eqb (zone_count_of b) 0) (ltb 64 (zone_count_of b)) y.0 in
        let z : zone_count_of b ≡ 0 → ⊥ = eqb-false (zone_count_of b) 0 n.0 in
        counted l (omega (arith, z)) (ltb-false 64 (zone_count_of b) n.1) (split_when (ltb 256 (count_of b)) (Passages 1) _ f y.1)

    first : ((ltb (length b) 3 ≡ true) × (Short (length b) ≡ f)) ⊎ ((ltb (length b) 3 ≡ false) × (or_else (when (eqb (zone_count_of b) 0 || ltb 64 (zone_count_of b)) (Zones 0)) (or_else (when (ltb 256 (count_of b)) (Passages 1)) (when (not (eqb (length b) (size_of b))) (Length (min (length b) (size_of b))))) ≡ Some f)) → FirstFault b f
    first (inl y) = be b y.1 (record { broken = under_three (ltb-true (length b) 3 y.0); first = λ g q. omega arith })
    first (inr y) = zoned (ltb-false (length b) 3 y.0) (split_when (eqb (zone_count_of b) 0 || ltb 64 (zone_count_of b)) (Zones 0) _ f y.1)

entry_breaks : (b : List ℕ) (z : ℕ) → z < zone_count_of b → bad_entry_lem b z ≡ true → Breaks b (Entry (entry_place z))
entry_breaks b zero l e = elim (or_cases (not (eqb (entry_of b 0) 0)) (ltb (count_of b) (entry_of b 0)) e)
    [ inl q ↦ not_from_0 (eqb-false (entry_of b 0) 0 (not-true _ q)) | inr q ↦ passes 0 l (ltb-true (count_of b) (entry_of b 0) q) ]
entry_breaks b (suc z) l e =
    let n : eqb (suc z) 0 ≡ false = ne_eqb (suc z) 0 (λ q. omega arith) in
    let p : suc z - 1 ≡ z = omega arith in
    elim (or_cases (cond (eqb (suc z) 0) (not (eqb (entry_of b (suc z)) 0)) (ltb (entry_of b (suc z)) (entry_of b (suc z - 1)))) (ltb (count_of b) (entry_of b (suc z))) e) [
      | inl q ↦ falls z l (subst (λ (y : ℕ). entry_of b (suc z) < entry_of b y) p (ltb-true _ _ (ap (λ t. cond t (not (eqb (entry_of b (suc z)) 0)) (ltb (entry_of b (suc z)) (entry_of b (suc z - 1)))) (sym n) ∙ q)))
      | inr q ↦ passes (suc z) l (ltb-true (count_of b) (entry_of b (suc z)) q)
    ]

entry_first : (b : List ℕ) → head_fault b ≡ None → (f : PlanFault) → first_below (entry_fault b) (zone_count_of b) ≡ Some f → FirstFault b f
entry_first b h f e =
    let w = came (entry_fault b) (zone_count_of b) f e in
    let y = last_when (bad_entry_lem b w.at) (Entry (entry_place w.at)) f w.gives in
    let l = w.below in
    be b y.1 (record { broken = entry_breaks b w.at l y.0; first = λ g q. past_entries b (framed b h) w.at (omega arith) w.before q })

some_came : (b : List ℕ) (n i : ℕ) (o : Option ℕ) → body_below_lem b n i ≡ o → is_some o ≡ true → (j : ℕ) × (j < i) × (number_of b j ≡ n)
some_came b n i (Some k) p e =
    let w = came (λ j. when (eqb (number_of b j) n) j) i k p in
    (w.at, w.below, equal w.at (eqb (number_of b w.at) n) refl w.gives)
  where
    equal : (j : ℕ) (t : Bool) → eqb (number_of b j) n ≡ t → when t j ≡ Some k → number_of b j ≡ n
    equal j true q g = eqb-true (number_of b j) n q
    equal j false q g = absurd (let z : ◌≡◌ {A = ℕ} 0 1 = cc in omega arith)
some_came b n i None p e = absurd (let z : ◌≡◌ {A = ℕ} 0 1 = cc in omega arith)

body_first : (b : List ℕ) → head_fault b ≡ None → first_below (entry_fault b) (zone_count_of b) ≡ None → (f : PlanFault) → first_below (body_fault b) (count_of b) ≡ Some f → FirstFault b f
body_first b h e f p = repeated (split_when (is_some (body_below_lem b (number_of b i) i)) (Repeated (body_place_lem b i)) _ f w.gives)
  where
    w : Came (body_fault b) (count_of b) f
    w = came (body_fault b) (count_of b) f p

    i : ℕ
    i = w.at

    past : (k : ℕ) → k ≤ 2 → (1 ≤ k → body_below_lem b (number_of b i) i ≡ None) → (2 ≤ k → destination_of b i < zone_count_of b) → (g : PlanFault) → Breaks b g → 4 + body_place_lem b i + k ≤ turn g
    past k a c d g q = let l = w.below in past_bodies b (framed b h) e i k w.before a c d (omega arith) q

    kinds : body_below_lem b (number_of b i) i ≡ None → destination_of b i < zone_count_of b → ((ltb 7 (kind_of b i) ≡ true) × (Kind (body_place_lem b i + 2) ≡ f)) → FirstFault b f
    kinds n d y = be b y.1 (record { broken = no_kind i w.below (ltb-true 7 (kind_of b i) y.0); first = λ g q. omega (arith, past 2 (omega arith) (λ l. n) (λ l. d) g q) })

    destined : body_below_lem b (number_of b i) i ≡ None → ((leb (zone_count_of b) (destination_of b i) ≡ true) × (Destination (body_place_lem b i + 1) ≡ f)) ⊎ ((leb (zone_count_of b) (destination_of b i) ≡ false) × (when (ltb 7 (kind_of b i)) (Kind (body_place_lem b i + 2)) ≡ Some f)) → FirstFault b f
    destined n (inl y) = be b y.1 (record { broken = leads_out i w.below (leb-true (zone_count_of b) (destination_of b i) y.0); first = λ g q. omega (arith, past 1 (omega arith) (λ l. n) (λ l. absurd (omega arith)) g q) })
    destined n (inr y) = kinds n (leb-false (zone_count_of b) (destination_of b i) y.0) (last_when (ltb 7 (kind_of b i)) (Kind (body_place_lem b i + 2)) f y.1)

    repeated : ((is_some (body_below_lem b (number_of b i) i) ≡ true) × (Repeated (body_place_lem b i) ≡ f)) ⊎ ((is_some (body_below_lem b (number_of b i) i) ≡ false) × (or_else (when (leb (zone_count_of b) (destination_of b i)) (Destination (body_place_lem b i + 1))) (when (ltb 7 (kind_of b i)) (Kind (body_place_lem b i + 2))) ≡ Some f)) → FirstFault b f
    repeated (inl y) =
        let c = some_came b (number_of b i) i (body_below_lem b (number_of b i) i) refl y.0 in
        be b y.1 (record { broken = repeats c.0 i c.1 w.below c.2; first = λ g q. omega (arith, past 0 (omega arith) (λ l. absurd (omega arith)) (λ l. absurd (omega arith)) g q) })
    repeated (inr y) = destined (no_some (body_below_lem b (number_of b i) i) y.0) (split_when (leb (zone_count_of b) (destination_of b i)) (Destination (body_place_lem b i + 1)) _ f y.1)

pub first_fault : (b : List ℕ) (f : PlanFault) → file_fault b ≡ Some f → FirstFault b f
first_fault b f e = elim (split_or (head_fault b) _ f e) [
  | inl h ↦ head_first b f h
  | inr h ↦ elim (split_or (first_below (entry_fault b) (zone_count_of b)) _ f h.1) [
    | inl i ↦ entry_first b h.0 f i
    | inr i ↦ body_first b h.0 i.0 f i.1
  ]
]

pub keeps_rules : (b : List ℕ) → file_fault b ≡ None → KeepsRules b
keeps_rules b e =
    let r = or_right (head_fault b) _ e in
    keeps b (or_left (head_fault b) _ e) (or_left (first_below (entry_fault b) (zone_count_of b)) _ r) (or_right (first_below (entry_fault b) (zone_count_of b)) _ r)

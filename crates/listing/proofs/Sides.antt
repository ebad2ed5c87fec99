-- Two listings, turn by turn.
use Rattle.std.proofs.Common.{◌≡◌, ℕ, zero, suc, ◌+◌, ◌-◌, ◌^◌, ◌<◌, ◌≤◌, Bool, true, false, ◌↔◌, List, [], ◌∷◌, ◌++◌, length, get_or, take, Some, None, Ok, Err, Option, Result, is_some, min, nat_eq, not, sym, refl, ap, ◌∙◌, subst, ap₂, arith, get_or-take}
use borrow.Author.Tests.{clash}
use lib.Pointwise.{pointwise, bytes_decides}
use Rattle.std.specs.Result.{result_unwrap_or}
use Rattle.fault.specs.declared.Fault.{Fault}
use Rattle.model.specs.Plans.{PlanMeaning}
use Rattle.model.specs.Rules.{RuleMeaning, KeepsLaws}
use Rattle.model.specs.Patterns.{Tree}
use Rattle.model.specs.Records.{Answer, rec_words}
use Rattle.model.specs.Questions.{EnquiryMeaning, Question, Lawful, SameAnswers}
use Rattle.model.specs.Calls.{State, unposed, posed, at_front, behind, First, Left, Next}
use Rattle.model.specs.Calls as calls
use Rattle.model.specs.Calls.Next.{next_unposed, no_room, none_left, delivers}
use Rattle.model.proofs.RecordLaws.{record_laws}
use Rattle.automaton.specs.Tables.{Recognises}
use Rattle.automaton.specs.declared.Automaton.{Automaton}
use Rattle.search.specs.declared.cursor.Cursor.{Cursor}
use Rattle.search.specs.Listings.{codes_of}
use Rattle.search.specs.Trails.{trail, begun}
use Rattle.enquiry.specs.Promises.{asked, state_of, Kept, Promise, Forward}
use Rattle.listing.specs.Pairs.{CameBy, Steps, LeadsOn, SameRecords, place, UnderWay, Listed}
use Rattle.listing.proofs.Agreeing.{Agreeing, agree_front, agree_next, agree_end, differ_end, differ_next}
use Rattle.listing.proofs.Ends.{placed, falls, low_codes, short_codes}

front_taken : (xs ys : List ℕ) → take (length xs) (xs ++ ys) ≡ xs
front_taken [] ys = refl
front_taken (x ∷ xs) ys = ap (λ (v : List ℕ). x ∷ v) (front_taken xs ys)

-- what a next that is not refused did
came_some : (n : EnquiryMeaning) (q : Question) (st : calls.Standing) (buf : List ℕ) (k : ℕ) (buf' : List ℕ) (s : State) → Next n (posed q st) buf (Ok (Some k)) buf' s → CameBy n q st (Some k) buf' s
came_some n q st buf k buf' s (delivers a l f) = (a, f, refl, front_taken (rec_words a) _, refl)

came_none : (n : EnquiryMeaning) (q : Question) (st : calls.Standing) (buf : List ℕ) (buf' : List ℕ) (s : State) → Next n (posed q st) buf (Ok None) buf' s → CameBy n q st None buf' s
came_none n q st buf buf' s (none_left l f) = (f, refl)

not_refused : (n : EnquiryMeaning) (q : Question) (st : calls.Standing) (buf : List ℕ) (f : Fault) (buf' : List ℕ) (s : State) → 770 ≤ length buf → Next n (posed q st) buf (Err f) buf' s → ⊥
not_refused n q st buf f buf' s h (no_room l) = omega arith

came : (n : EnquiryMeaning) (q : Question) (st : calls.Standing) (buf : List ℕ) (o : Option ℕ) (buf' : List ℕ) (s : State) → Next n (posed q st) buf (Ok o) buf' s → CameBy n q st o buf' s
came n q st buf (Some k) buf' s h = came_some n q st buf k buf' s h
came n q st buf None buf' s h = came_none n q st buf buf' s h

steps_ok : (pl : PlanMeaning) (ru : RuleMeaning) (a : Automaton) (d e : Option Cursor) (buf buf' : List ℕ) (o : Option ℕ) → Promise pl ru a d e (λ n s u. Next n s buf (Ok o) buf' u) → Steps pl ru a d o buf' e
steps_ok pl ru a d e buf buf' o p t rec q st k at =
    let h = p t rec k in
    (h.1, came (asked pl ru t) q st buf o buf' (state_of e) (subst (λ (s : State). Next (asked pl ru t) s buf (Ok o) buf' (state_of e)) at h.0))

steps_err : (pl : PlanMeaning) (ru : RuleMeaning) (a : Automaton) (d e : Option Cursor) (buf buf' : List ℕ) (f : Fault) → 770 ≤ length buf → Promise pl ru a d e (λ n s u. Next n s buf (Err f) buf' u) → Steps pl ru a d None buf' e
steps_err pl ru a d e buf buf' f l p t rec q st k at =
    let h = p t rec k in
    absurd (not_refused (asked pl ru t) q st buf f buf' (state_of e) l (subst (λ (s : State). Next (asked pl ru t) s buf (Err f) buf' (state_of e)) at h.0))

forward_leads : (pl : PlanMeaning) (ru : RuleMeaning) (a : Automaton) (d e : Option Cursor) (o : Option ℕ) → Forward pl ru a d (Ok o) e → LeadsOn pl ru a d o e
forward_leads pl ru a d e (Some k) h = h
forward_leads pl ru a d e None h = tt

pub stepped : (pl : PlanMeaning) (ru : RuleMeaning) (a : Automaton) (d e : Option Cursor) (buf buf' : List ℕ) (r : Result (Option ℕ) Fault) (o : Option ℕ) → o ≡ result_unwrap_or r None → 770 ≤ length buf →
    Promise pl ru a d e (λ n s u. Next n s buf r buf' u) → Steps pl ru a d o buf' e
stepped pl ru a d e buf buf' (Ok c) o q l p = subst (λ (x : Option ℕ). Steps pl ru a d x buf' e) (sym q) (steps_ok pl ru a d e buf buf' c p)
stepped pl ru a d e buf buf' (Err f) o q l p = subst (λ (x : Option ℕ). Steps pl ru a d x buf' e) (sym q) (steps_err pl ru a d e buf buf' f l p)

pub led_on : (pl : PlanMeaning) (ru : RuleMeaning) (a : Automaton) (d e : Option Cursor) (r : Result (Option ℕ) Fault) (o : Option ℕ) → o ≡ result_unwrap_or r None → Forward pl ru a d r e → LeadsOn pl ru a d o e
led_on pl ru a d e (Ok c) o q h = subst (λ (x : Option ℕ). LeadsOn pl ru a d x e) (sym q) (forward_leads pl ru a d e c h)
led_on pl ru a d e (Err f) o q h = subst (λ (x : Option ℕ). LeadsOn pl ru a d x e) (sym q) tt

-- steps of the enquiry as it was
pub steps_at : {pl pl' : PlanMeaning} {ru ru' : RuleMeaning} {a a' : Automaton} (d e : Option Cursor) (o : Option ℕ) (ws : List ℕ) → pl' ≡ pl → ru' ≡ ru → a' ≡ a → Steps pl' ru' a' d o ws e → Steps pl ru a d o ws e
steps_at {pl} {pl'} {ru} {ru'} {a} {a'} d e o ws p q r h = subst (λ (x : Automaton). Steps pl ru x d o ws e) r (subst (λ (x : RuleMeaning). Steps pl x a' d o ws e) q (subst (λ (x : PlanMeaning). Steps x ru' a' d o ws e) p h))

pub leads_at : {pl pl' : PlanMeaning} {ru ru' : RuleMeaning} {a a' : Automaton} (d e : Option Cursor) (k : ℕ) → pl' ≡ pl → ru' ≡ ru → a' ≡ a → LeadsOn pl' ru' a' d (Some k) e → LeadsOn pl ru a d (Some k) e
leads_at {pl} {pl'} {ru} {ru'} {a} {a'} d e k p q r h = subst (λ (x : Automaton). LeadsOn pl ru x d (Some k) e) r (subst (λ (x : RuleMeaning). LeadsOn pl x a' d (Some k) e) q (subst (λ (x : PlanMeaning). LeadsOn x ru' a' d (Some k) e) p h))

-- after a delivery the search stands where it can have come to
pub goes_under_way : (pl : PlanMeaning) (ru : RuleMeaning) (a : Automaton) (d e : Option Cursor) (k : ℕ) → UnderWay pl ru a d → LeadsOn pl ru a d (Some k) e → UnderWay pl ru a e
goes_under_way pl ru a None e k u h = absurd h
goes_under_way pl ru a (Some d) None k u h = absurd h
goes_under_way pl ru a (Some d) (Some e) k u h = (h u).0

-- a delivery brings the listing nearer to its end
pub nearer : (pl : PlanMeaning) (ru : RuleMeaning) (a : Automaton) (d e : Option Cursor) (k : ℕ) → UnderWay pl ru a d → LeadsOn pl ru a d (Some k) e → 2305 ^ 256 + 1 - place e < 2305 ^ 256 + 1 - place d
nearer pl ru a None e k u h = absurd h
nearer pl ru a (Some d) None k u h = absurd h
nearer pl ru a (Some d) (Some e) k u h =
    let w = h u in
    let s = trail d.progress in
    let r = trail e.progress in
    subst (λ (b : Bool). 2305 ^ 256 + 1 - placed b (codes_of r) < 2305 ^ 256 + 1 - place (Some d)) (sym w.1)
    (falls (begun d.progress) (codes_of s) (codes_of r)
    (low_codes pl ru a d.target d.most s.start s.steps u)
    (low_codes pl ru a e.target e.most r.start r.steps w.0)
    (short_codes pl ru a d.target d.most s.start s.steps d.short u)
    (short_codes pl ru a e.target e.most r.start r.steps e.short w.0)
    w.2)

-- two enquiries that have delivered the same so far
pub record Side (n m : EnquiryMeaning) (a b : Automaton) (q v : Question) (d e : Option Cursor) : Type 0 where
  pub left_kept : Kept n a d
  pub right_kept : Kept m b e
  pub stand : calls.Standing
  pub left_at : state_of d ≡ posed q stand
  pub right_at : state_of e ≡ posed v stand
  pub agreeing : Agreeing n q m v stand

-- lists that agree at each place have the same front
take_same : (k : ℕ) (xs ys : List ℕ) → k ≤ length xs → k ≤ length ys → ((i : ℕ) → i < k → get_or xs i 0 ≡ get_or ys i 0) → take k xs ≡ take k ys
take_same zero xs ys l m h = refl
take_same (suc k) [] ys l m h = absurd (omega arith)
take_same (suc k) (x ∷ xs) [] l m h = absurd (omega arith)
take_same (suc k) (x ∷ xs) (y ∷ ys) l m h = ap₂ (λ (z : ℕ) (zs : List ℕ). z ∷ zs) (h 0 (omega arith)) (take_same k xs ys (omega arith) (omega arith) (λ i p. h (suc i) (omega arith)))

same_places : (k : ℕ) (xs ys : List ℕ) → take k xs ≡ take k ys → (i : ℕ) → i < k → get_or xs i 0 ≡ get_or ys i 0
same_places k xs ys e i l = sym (get_or-take k xs i 0 l) ∙ ap (λ (zs : List ℕ). get_or zs i 0) e ∙ get_or-take k ys i 0 l

-- the fronts of two buffers, compared as slices
pub compared_fronts : (xs ys : List ℕ) (n m k : ℕ) (b : Bool) → n ≡ m → k ≡ min n 770 → length xs ≡ 770 → length ys ≡ 770 → b ≡ pointwise nat_eq (take k xs) (take k ys) → SameRecords xs n ys m b
compared_fronts xs ys n m k true q e l l' h = (q, λ i u v. same_places k xs ys ((bytes_decides (take k xs) (take k ys)).0 (sym h)) i (omega (arith, e)))
compared_fronts xs ys n m k false q e l l' h =
    λ _ f. clash (h ∙ (bytes_decides (take k xs) (take k ys)).1 (take_same k xs ys (omega (arith, e)) (omega (arith, e)) (λ i u. f i (omega (arith, e)) (omega (arith, e)))))

module _ (n m : EnquiryMeaning) (ln : Lawful n) (lm : Lawful m) (a b : Automaton) (q v : Question) (d e : Option Cursor) (s : Side n m a b q v d e) where
  -- both delivered
  module _ (d' e' : Option Cursor) (one other : List ℕ) (k j : ℕ) (x : Kept n a d' × CameBy n q s.stand (Some k) one (state_of d')) (y : Kept m b e' × CameBy m v s.stand (Some j) other (state_of e')) where
    left_answer : Answer
    left_answer = x.1.0

    right_answer : Answer
    right_answer = y.1.0

    same_answer : length one ≡ 770 → length other ≡ 770 → SameRecords one k other j true → left_answer ≡ right_answer
    unfolding left_answer right_answer
    same_answer lo lt h =
        let short = record_laws.short n ln q x.1.0 x.1.1.0.0 in
        let low : k ≤ 770 = omega (arith, short, x.1.2) in
        let fronts : take k one ≡ take k other = take_same k one other (omega arith) (omega arith) (λ i p. h.1 i p (omega arith)) in
        record_laws.words_determine n m ln lm q v x.1.0 y.1.0 x.1.1.0.0 y.1.1.0.0 (sym x.1.3 ∙ fronts ∙ ap (λ (i : ℕ). take i other) h.0 ∙ y.1.3)

    pub side_on : length one ≡ 770 → length other ≡ 770 → SameRecords one k other j true → Side n m a b q v d' e'
    unfolding left_answer right_answer
    side_on lo lt h =
        let e = same_answer lo lt h in
        record {
          left_kept = x.0;
          right_kept = y.0;
          stand = behind x.1.0;
          left_at = x.1.4;
          right_at = y.1.4 ∙ ap (λ (z : Answer). posed v (behind z)) (sym e);
          agreeing = agree_next n q m v ln lm s.stand x.1.0 x.1.1 (subst (λ (z : Answer). First (Left m v s.stand) z) (sym e) y.1.1) s.agreeing;
        }

    pub side_differs : SameRecords one k other j false → SameAnswers n q m v → ⊥
    side_differs h same =
        differ_next n q m v s.stand x.1.0 y.1.0 x.1.1 y.1.1
        (λ e.
        let w : rec_words x.1.0 ≡ rec_words y.1.0 = ap rec_words e in
        let c : k ≡ j = x.1.2 ∙ ap length w ∙ sym y.1.2 in
        h c (λ i l _. same_places k one other (x.1.3 ∙ w ∙ sym y.1.3 ∙ ap (λ (z : ℕ). take z other) (sym c)) i l))
        same

  pub left_longer : (d' e' : Option Cursor) (one other : List ℕ) (k : ℕ) → CameBy n q s.stand (Some k) one (state_of d') → CameBy m v s.stand None other (state_of e') → SameAnswers n q m v → ⊥
  left_longer d' e' one other k x y same = differ_end n q m v s.stand x.0 x.1 y.0 same

  pub right_longer : (d' e' : Option Cursor) (one other : List ℕ) (k : ℕ) → CameBy n q s.stand None one (state_of d') → CameBy m v s.stand (Some k) other (state_of e') → SameAnswers n q m v → ⊥
  right_longer d' e' one other k x y same = differ_end m v n q s.stand y.0 y.1 x.0 (λ z. ((same z).1, (same z).0))

  pub both_ended : (d' e' : Option Cursor) (one other : List ℕ) → CameBy n q s.stand None one (state_of d') → CameBy m v s.stand None other (state_of e') → SameAnswers n q m v
  both_ended d' e' one other x y = agree_end n q m v s.stand x.0 y.0 s.agreeing

pub never : {X : Type 0} → (X → ⊥) → (false ≡ true) ↔ X
never f = (λ e. absurd (clash e), λ x. absurd (f x))

flipped : (c b : Bool) → b ≡ not c → c ≡ not b
flipped true b e = sym (ap not e)
flipped false b e = sym (ap not e)

pub always : {X : Type 0} → X → (true ≡ true) ↔ X
always x = (λ _. x, λ _. refl)

-- from the front of both listings the two have come to these cursors, and have delivered the same so far
abbrev pub Beside : PlanMeaning → RuleMeaning → Automaton → Option Cursor → PlanMeaning → RuleMeaning → Automaton → Option Cursor → Option Cursor → Option Cursor → Type 0
Beside pl ru a d pl' ru' a' d' e e' = (t u : Tree) → Recognises a t → Recognises a' u → (q v : Question) → Kept (asked pl ru t) a d → Kept (asked pl' ru' u) a' d' → state_of d ≡ posed q at_front → state_of d' ≡ posed v at_front → Side (asked pl ru t) (asked pl' ru' u) a a' q v e e'

pub beside_start : (pl : PlanMeaning) (ru : RuleMeaning) (a : Automaton) (d : Option Cursor) (pl' : PlanMeaning) (ru' : RuleMeaning) (a' : Automaton) (d' : Option Cursor) → Beside pl ru a d pl' ru' a' d' d d'
beside_start pl ru a d pl' ru' a' d' t u rt ru'' q v k k' at at' = record { left_kept = k; right_kept = k'; stand = at_front; left_at = at; right_at = at'; agreeing = agree_front (asked pl ru t) q (asked pl' ru' u) v }

module _ (pl : PlanMeaning) (ru : RuleMeaning) (laws : KeepsLaws ru) (a : Automaton) (d : Option Cursor) (pl' : PlanMeaning) (ru' : RuleMeaning) (laws' : KeepsLaws ru') (a' : Automaton) (d' : Option Cursor) (e e' : Option Cursor) (b : Beside pl ru a d pl' ru' a' d' e e') where
  pub beside_on : (f f' : Option Cursor) (one other : List ℕ) (k j : ℕ) → Steps pl ru a e (Some k) one f → Steps pl' ru' a' e' (Some j) other f' → length one ≡ 770 → length other ≡ 770 → SameRecords one k other j true → Beside pl ru a d pl' ru' a' d' f f'
  beside_on f f' one other k j x y lo lt h t u rec rec' q v kd kd' at at' =
      let s = b t u rec rec' q v kd kd' at at' in
      side_on (asked pl ru t) (asked pl' ru' u) laws laws' a a' q v e e' s f f' one other k j (x t rec q s.stand s.left_kept s.left_at) (y u rec' v s.stand s.right_kept s.right_at) lo lt h

  pub listed_differ : (f f' : Option Cursor) (one other : List ℕ) (k j : ℕ) → Steps pl ru a e (Some k) one f → Steps pl' ru' a' e' (Some j) other f' → SameRecords one k other j false → Listed pl ru a d pl' ru' a' d' false
  listed_differ f f' one other k j x y h t u rec rec' q v kd kd' at at' =
      let s = b t u rec rec' q v kd kd' at at' in
      never (side_differs (asked pl ru t) (asked pl' ru' u) laws laws' a a' q v e e' s f f' one other k j (x t rec q s.stand s.left_kept s.left_at) (y u rec' v s.stand s.right_kept s.right_at) h)

  pub listed_left : (f f' : Option Cursor) (one other : List ℕ) (k : ℕ) → Steps pl ru a e (Some k) one f → Steps pl' ru' a' e' None other f' → Listed pl ru a d pl' ru' a' d' false
  listed_left f f' one other k x y t u rec rec' q v kd kd' at at' =
      let s = b t u rec rec' q v kd kd' at at' in
      never (left_longer (asked pl ru t) (asked pl' ru' u) laws laws' a a' q v e e' s f f' one other k (x t rec q s.stand s.left_kept s.left_at).1 (y u rec' v s.stand s.right_kept s.right_at).1)

  listed_right : (f f' : Option Cursor) (one other : List ℕ) (k : ℕ) → Steps pl ru a e None one f → Steps pl' ru' a' e' (Some k) other f' → Listed pl ru a d pl' ru' a' d' false
  listed_right f f' one other k x y t u rec rec' q v kd kd' at at' =
      let s = b t u rec rec' q v kd kd' at at' in
      never (right_longer (asked pl ru t) (asked pl' ru' u) laws laws' a a' q v e e' s f f' one other k (x t rec q s.stand s.left_kept s.left_at).1 (y u rec' v s.stand s.right_kept s.right_at).1)

  listed_same : (f f' : Option Cursor) (one other : List ℕ) → Steps pl ru a e None one f → Steps pl' ru' a' e' None other f' → Listed pl ru a d pl' ru' a' d' true
  listed_same f f' one other x y t u rec rec' q v kd kd' at at' =
      let s = b t u rec rec' q v kd kd' at at' in
      always (both_ended (asked pl ru t) (asked pl' ru' u) laws laws' a a' q v e e' s f f' one other (x t rec q s.stand s.left_kept s.left_at).1 (y u rec' v s.stand s.right_kept s.right_at).1)

  pub listed_end : (f f' : Option Cursor) (one other : List ℕ) (o : Option ℕ) (c : Bool) → is_some o ≡ not c → Steps pl ru a e None one f → Steps pl' ru' a' e' o other f' → Listed pl ru a d pl' ru' a' d' c
  listed_end f f' one other (Some k) c q x y = subst (λ (z : Bool). Listed pl ru a d pl' ru' a' d' z) (sym (flipped c true q)) (listed_right f f' one other k x y)
  listed_end f f' one other None c q x y = subst (λ (z : Bool). Listed pl ru a d pl' ru' a' d' z) (sym (flipped c false q)) (listed_same f f' one other x y)

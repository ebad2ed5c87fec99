-- The law of next and the law of listings.
use Rattle.std.proofs.Common.{◌≡◌, ℕ, List, [], ◌∷◌, ◌++◌, length, take, drop, Some, None, Ok, Option, sym, refl, ap, ◌∙◌, subst, append_assoc, append-nil}
use lib.Seq.{take-append_seam, drop-append_seam}
use Rattle.model.specs.Records.{rec_words}
use Rattle.model.specs.Questions.{EnquiryMeaning, Lawful, Question}
use Rattle.model.specs.Calls.{State, unposed, Next}
use Rattle.model.specs.Calls.Next.{none_left, delivers}
use Rattle.model.specs.Runs.{Event, next, Does, Says, asks, starts_over, gives, stands_behind, ends_list, idle, says, asked_by, latest_by, Goes, Happens, asked_from, latest_from, question, most_recent, NextSays, LawOfNext, Opens, Stays, AllStay, given_by, delivered, Full, LawOfListings}
use Rattle.model.specs.Runs.Goes.{done, then_goes}
use Rattle.model.proofs.Effects.{Effect, effect}
use Rattle.model.proofs.Standings.{Tied, tied_step, left→come, come→left, no_some}
use Rattle.model.proofs.Progress.{Prog, Whole, asks_step, over_step, gives_step, idle_step, ends_step, to_whole, from_wholes}

tied_along : {n : EnquiryMeaning} {s t : State} {es : List Event} (o : Option Question) (l : Option (List ℕ)) → Goes n s es t → Tied n o l s → Tied n (asked_from o es) (latest_from l es) t
tied_along o l done h = h
tied_along {n} o l (then_goes {s = s} {t = t} {e = e} d g) h = tied_along (asked_by (says e) o) (latest_by (says e) l) g (tied_step n o l s t (says e) (effect n s t e d) h)

-- the calls before, one call, and the calls after
pub record Parted (n : EnquiryMeaning) (s : State) (before : List Event) (e : Event) (later : List Event) (u : State) : Type 0 where
  pub found : State
  pub left_it : State
  pub first : Goes n s before found
  pub does : Does n found e left_it
  pub rest : Goes n left_it later u

part : (n : EnquiryMeaning) (before : List Event) (e : Event) (later : List Event) (s u : State) → Goes n s (before ++ (e ∷ later)) u → Parted n s before e later u
part n [] e later s u (then_goes {t = t} d g) = record { found = s; left_it = t; first = done; does = d; rest = g }
part n (b ∷ bs) e later s u (then_goes {t = t} d g) = let r = part n bs e later t u g in record { found = r.found; left_it = r.left_it; first = then_goes d r.first; does = r.does; rest = r.rest }

next_case : (n : EnquiryMeaning) → Lawful n → (es : List Event) (s s' : State) (b : List ℕ) (r : Option ℕ) (b' : List ℕ) → Tied n (question es) (most_recent es) s → Next n s b (Ok r) b' s' → NextSays n es b r b'
next_case n kept es s s' b r b' t (none_left {q = q} {st = st} g no_more) = record {
  none_exactly = ((λ e a c. no_more a (come→left n kept (question es) (most_recent es) q st a t c)), (λ f. refl));
  first_one = λ k e. no_some None k refl e;
  none_keeps = λ e. refl;
}
next_case n kept es s s' b r b' t (delivers {q = q} {st = st} a g f) = record {
  none_exactly = ((λ e. no_some _ _ e refl), (λ f'. absurd (f' a (left→come n (question es) (most_recent es) q st a t f.0))));
  first_one = λ k e.
      let len : length (rec_words a) ≡ k = cc in
      let P : ℕ → Type 0 = λ j. (take j (rec_words a ++ drop (length (rec_words a)) b) ≡ rec_words a) × (drop j (rec_words a ++ drop (length (rec_words a)) b) ≡ drop j b) in
      let p : P k = subst P len (take-append_seam (rec_words a) (drop (length (rec_words a)) b), drop-append_seam (rec_words a) (drop (length (rec_words a)) b)) in
      (a, (left→come n (question es) (most_recent es) q st a t f.0, λ x c. f.1 x (come→left n kept (question es) (most_recent es) q st x t c)), p.0, p.1);
  none_keeps = λ e. no_some _ _ e refl;
}

pub law_of_next_lem : LawOfNext
law_of_next_lem n kept before later b r b' h =
    let p = part n before (next b (Ok r) b') later unposed h.left_as h.goes in
    next_case n kept before p.found p.left_it b r b' (tied_along None None p.first refl) p.does

open_step : (n : EnquiryMeaning) (s t : State) (y : Says) → Opens y → Effect n s y t → Prog n t []
open_step n s t (asks q) o f = asks_step n s t q f
open_step n s t starts_over o f = over_step n s t f
open_step n s t (gives w) o f = absurd o
open_step n s t (stands_behind w) o f = absurd o
open_step n s t ends_list o f = absurd o
open_step n s t idle o f = absurd o

-- along the calls between
stay_step : (n : EnquiryMeaning) (s t : State) (y : Says) (ws vs : List (List ℕ)) → Stays y → Effect n s y t → Prog n s ws → (us : List (List ℕ)) × Prog n t us × (us ++ vs ≡ ws ++ given_by y vs)
stay_step n s t (asks q) ws vs o f p = absurd o
stay_step n s t starts_over ws vs o f p = absurd o
stay_step n s t (gives w) ws vs o f p = (ws ++ (w ∷ []), gives_step n s t w ws f p, append_assoc ws (w ∷ []) vs)
stay_step n s t (stands_behind w) ws vs o f p = absurd o
stay_step n s t ends_list ws vs o f p = absurd o
stay_step n s t idle ws vs o f p = (ws, idle_step n s t ws f p, refl)

along : {n : EnquiryMeaning} {s t : State} {es : List Event} (ws : List (List ℕ)) → Goes n s es t → AllStay es → Prog n s ws → Prog n t (ws ++ delivered es)
along {n} ws (done {s = s}) o p = let P : List (List ℕ) → Type 0 = λ us. Prog n s us in subst P (sym (append-nil ws)) p
along {n} ws (then_goes {s = s} {t = t} {u = u} {e = e} {es = es} d g) o p =
    let x = stay_step n s t (says e) ws (delivered es) o.0 (effect n s t e d) p in
    let P : List (List ℕ) → Type 0 = λ us. Prog n u us in
    subst P x.2 (along x.0 g o.1 x.1)

stays_asked : (y : Says) (o : Option Question) → Stays y → asked_by y o ≡ o
stays_asked (asks q) o h = absurd h
stays_asked starts_over o h = refl
stays_asked (gives w) o h = refl
stays_asked (stands_behind w) o h = refl
stays_asked ends_list o h = refl
stays_asked idle o h = refl

stay_asked : (es : List Event) (o : Option Question) → AllStay es → asked_from o es ≡ o
stay_asked [] o h = refl
stay_asked (e ∷ es) o h = ap (λ (x : Option Question). asked_from x es) (stays_asked (says e) o h.0) ∙ stay_asked es o h.1

asked_last : (es : List Event) (e : Event) (o : Option Question) → asked_from o (es ++ (e ∷ [])) ≡ asked_by (says e) (asked_from o es)
asked_last [] e o = refl
asked_last (b ∷ bs) e o = asked_last bs e (asked_by (says b) o)

pub whole_full : (n : EnquiryMeaning) (es : List Event) (q : Question) (ls : List (List ℕ)) → Happens n es → Full es q ls → Whole n q ls
whole_full n es q ls h f =
    let P : List Event → Type 0 = λ x. Goes n unposed x h.left_as in
    let x = part n f.before f.opening (f.between ++ (f.closing ∷ f.later)) unposed h.left_as (subst P f.parts h.goes) in
    let y = part n f.between f.closing f.later x.left_it h.left_as x.rest in
    let a = effect n x.found x.left_it f.opening x.does in
    let b = effect n y.found y.left_it f.closing y.does in
    let p = open_step n x.found x.left_it (says f.opening) f.opens a in
    let r = along [] y.first f.stay p in
    let Q : Says → Type 0 = λ z. Effect n y.found z y.left_it in
    let w = ends_step n y.found y.left_it (delivered f.between) (subst Q f.closes b) r in
    let o : Option Question = asked_by (says f.opening) (question f.before) in
    let l : Option (List ℕ) = latest_by (says f.opening) (most_recent f.before) in
    let t = tied_step n (question f.before) (most_recent f.before) x.found x.left_it (says f.opening) a (tied_along None None x.first refl) in
    let v = tied_step n (asked_from o f.between) (latest_from l f.between) y.found y.left_it (says f.closing) b (tied_along o l y.first t) in
    let e : asked_by (says f.closing) (asked_from o f.between) ≡ Some q = ap (λ (z : Says). asked_by z (asked_from o f.between)) f.closes ∙ stay_asked f.between o f.stay ∙ sym (asked_last f.before f.opening None) ∙ f.under in
    let W : List (List ℕ) → Type 0 = λ us. Whole n q us in
    subst W (sym f.records) (to_whole n _ _ y.left_it q (delivered f.between) v e w)

pub law_of_listings_lem : LawOfListings
law_of_listings_lem n m kn km es fs q u ls ms h k f g = from_wholes n m kn km q u ls ms (whole_full n es q ls h f) (whole_full m fs u ms k g)

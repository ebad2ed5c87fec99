-- Every question between zones of the plan has a full listing.
use Rattle.std.proofs.Common.{◌≡◌, ℕ, zero, suc, ◌+◌, ◌<◌, ◌≤◌, ◌⊎◌, List, [], ◌∷◌, ◌++◌, length, replicate, None, Ok, sym, refl, ap, ◌∙◌, subst, inl, inr, ⊎_elim, arith}
use mathlib.Core.List.Memᴰ
use mathlib.Core.List.{Memᴰ}
use lib.ListN.{length-replicate}
use Rattle.model.specs.Records.{Answer, Before, rec_words}
use Rattle.model.specs.Questions.{EnquiryMeaning, Lawful, Question, IsAnswer}
use Rattle.model.specs.Calls.{State, posed, Standing, at_front, behind, First, Left}
use Rattle.model.specs.Calls.Pose.{poses}
use Rattle.model.specs.Calls.Next.{none_left, delivers}
use Rattle.model.specs.Runs.{Event, pose, next, Goes, AllStay, delivered, HasListing, ListingsEnd}
use Rattle.model.specs.Runs.Goes.{done, then_goes}
use Rattle.model.proofs.Order.{before_irrefl}
use Rattle.model.proofs.Progress.{Descending, Progress, fresh, give}
use Rattle.model.proofs.Total.{Listed, listed_answers, some_first}

-- the list without one letter-word
abbrev less : {a : Answer} (xs : List Answer) → Memᴰ a xs → List Answer
less xs (Memᴰ.head {xs = ys} e) = ys
less xs (Memᴰ.tail {x = x} {xs = ys} m) = x ∷ less ys m

less_length : {a : Answer} (xs : List Answer) (m : Memᴰ a xs) → length xs ≡ suc (length (less xs m))
less_length xs (Memᴰ.head e) = refl
less_length xs (Memᴰ.tail {xs = ys} m) = ap suc (less_length ys m)

stays_in : {a b : Answer} (xs : List Answer) (m : Memᴰ a xs) → (b ≡ a → ⊥) → Memᴰ b xs → Memᴰ b (less xs m)
stays_in xs (Memᴰ.head e) h k = ⊎_elim (λ (f : _ ≡ _). absurd (h (f ∙ sym e))) (λ j. j) (Memᴰ.cases_cons k)
stays_in xs (Memᴰ.tail {xs = ys} m) h k = ⊎_elim (λ (f : _ ≡ _). Memᴰ.head f) (λ j. Memᴰ.tail (stays_in ys m h j)) (Memᴰ.cases_cons k)

-- different ones of a list are at most as many
few : (gs xs : List Answer) → Descending gs → ((a : Answer) → Memᴰ a gs → Memᴰ a xs) → length gs ≤ length xs
few [] xs d h = omega arith
few (g ∷ gs) xs d h =
    let m = h g (Memᴰ.head refl) in
    let P : Answer → Type 0 = λ z. Before z g in
    let r : length gs ≤ length (less xs m) = few gs (less xs m) d.1 (λ a k. stays_in xs m (λ e. before_irrefl g (subst P e (d.0 a k))) (h a (Memᴰ.tail k))) in
    let e = less_length xs m in
    omega arith

pub goes_append : {n : EnquiryMeaning} {s t u : State} {es fs : List Event} → Goes n s es t → Goes n t fs u → Goes n s (es ++ fs) u
goes_append done g = g
goes_append (then_goes d f) g = then_goes d (goes_append f g)

pub record Ending (n : EnquiryMeaning) (q : Question) (st : Standing) : Type 0 where
  pub between : List Event
  pub stay : AllStay between
  pub last : Standing
  pub goes : Goes n (posed q st) between (posed q last)
  pub over : (a : Answer) → Left n q last a → ⊥

abbrev room : List ℕ
room = replicate 770 0

has_room : 770 ≤ length room
has_room = let e = length-replicate {A = ℕ} 770 0 in omega arith

module _ (n : EnquiryMeaning) (k : Lawful n) (q : Question) where
  run_on : (l : Listed (IsAnswer n q)) (fuel : ℕ) (st : Standing) (ws : List (List ℕ)) (p : Progress n q st ws) → length p.given + fuel ≡ suc (length l.these) → Ending n q st
  unfolding give
  run_on l zero st ws p e = absurd (let h = few p.given l.these p.descends (λ a m. l.all_in a (p.are_answers a m)) in omega arith)
  run_on l (suc f) st ws p e = go (some_first n k q st) (λ a i. run_on l f (behind a) (ws ++ (rec_words a ∷ [])) (give n q st ws (rec_words a) a i refl p) (up p.given e))
    where
      up : (gs : List Answer) → length gs + suc f ≡ suc (length l.these) → suc (length gs) + f ≡ suc (length l.these)
      up gs h = omega arith

      go : ((a : Answer) → Left n q st a → ⊥) ⊎ ((a : Answer) × First (Left n q st) a) → ((a : Answer) → First (Left n q st) a → Ending n q (behind a)) → Ending n q st
      go (inl o) r = record { between = []; stay = tt; last = st; goes = done; over = o }
      go (inr i) r =
          let y = r i.0 i.1 in
          record { between = next room _ _ ∷ y.between; stay = (tt, y.stay); last = y.last; goes = then_goes (delivers i.0 has_room i.1) y.goes; over = y.over }

  has_listing : q.start < n.plan.zones → q.target < n.plan.zones → HasListing n q
  unfolding fresh
  has_listing a b =
      let l = listed_answers n k q in
      let y = run_on l (suc (length l.these)) at_front [] (fresh n q) (omega arith) in
      let opening : Event = pose q.start q.target q.choice (Ok tt) in
      let closing : Event = next room (Ok None) room in
      record {
        calls = opening ∷ (y.between ++ (closing ∷ []));
        happens = record { left_as = posed q y.last; goes = then_goes (poses a b) (goes_append y.goes (then_goes (none_left has_room y.over) done)) };
        listing = delivered y.between;
        full = record { before = []; opening = opening; between = y.between; closing = closing; later = []; parts = refl; opens = tt; stay = y.stay; closes = refl; under = refl; records = refl };
      }

pub listings_end_lem : ListingsEnd
listings_end_lem n k q a b = has_listing n k q a b

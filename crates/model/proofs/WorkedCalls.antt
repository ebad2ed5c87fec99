-- The worked calls are a run.
use Rattle.std.proofs.Common.{◌≡◌, ℕ, zero, suc, ◌+◌, ◌*◌, ◌<◌, ◌≤◌, Bool, true, false, not, ◌&&◌, T, eqb, leb, ◌⊎◌, List, [], ◌∷◌, ◌++◌, length, get_or, drop, Some, None, Ok, Err, Option, sym, refl, subst, inl, inr, ⊎_elim, arith, lit<, lit≤, leb→le, T_not}
use mathlib.Core.List.Memᴰ
use mathlib.Core.List.{Memᴰ}
use lib.Dec.{eqb_refl}
use lib.Ieee.Fits.{and_l, and_r}
use lib.ListN.{length-replicate}
use Rattle.fault.specs.declared.Fault.TheVariants.{Enquiry}
use Rattle.fault.specs.declared.EnquiryFault.TheVariants.{Target, Buffer, NotAnswer}
use Rattle.model.specs.declared.Choice.TheVariants.{All, Shortest}
use Rattle.model.specs.Patterns.{Letter, A, B}
use Rattle.model.specs.Records.{Answer, Line, answer_of, record_of, rec_words, Before}
use Rattle.model.specs.Questions.{EnquiryMeaning, Lawful, Question, IsAnswer}
use Rattle.model.specs.Calls.{unposed, posed, Standing, at_front, behind, First, Left, Holds, WellFormed}
use Rattle.model.specs.Calls.MalformedAt.{under_two, over_256, too_few, mark_over_8}
use Rattle.model.specs.Calls.Pose.{no_start, no_target, poses}
use Rattle.model.specs.Calls.Next.{next_unposed, no_room, none_left, delivers}
use Rattle.model.specs.Calls.Again.{again_unposed, goes_back}
use Rattle.model.specs.Calls.Check.{check_unposed, check_malformed, says_yes, says_no}
use Rattle.model.specs.Calls.Resume.{resume_unposed, resume_malformed, no_answer, resumes}
use Rattle.model.specs.Runs.{pose, next, again, check, resume, Goes, Happens, Full}
use Rattle.model.specs.Runs.Goes.{done, then_goes}
use Rattle.model.specs.WorkedCalls.{enquiry_e, buffer, all_between, first_record, second_record, third_record, too_early, no_zones, no_answers, malformed, deliveries, listing_e, worked_calls, CallsComeOut}
use Rattle.model.proofs.Bools.{and_make}
use Rattle.model.proofs.Order.{before_irrefl, before_trans}
use Rattle.model.proofs.RuleLaws.{restrictors}
use Rattle.model.proofs.Total.{not_malformed}
use Rattle.model.proofs.WellFormed.{answer_well_formed}
use Rattle.model.proofs.Ends.{goes_append}
use Rattle.model.proofs.Outcomes.{computed, choose_in, choose_are, below, below→}

-- every one of the list is after a, and every one is before it
abbrev rises : Answer → List Answer → Bool
rises a [] = true
rises a (b ∷ bs) = below (record_of a).lines (record_of b).lines && rises a bs

rises→ : (a b : Answer) (bs : List Answer) → T (rises a bs) → Memᴰ b bs → Before a b
rises→ a b bs t (Memᴰ.head {x = x} {xs = ys} e) = let P : Answer → Type 0 = λ y. Before a y in subst P (sym e) (below→ (record_of a).lines (record_of x).lines (and_l (below (record_of a).lines (record_of x).lines) (rises a ys) t))
rises→ a b bs t (Memᴰ.tail {x = x} {xs = ys} m) = rises→ a b ys (and_r (below (record_of a).lines (record_of x).lines) (rises a ys) t) m

-- one list stands at the front of another
abbrev begins : List ℕ → List ℕ → Bool
begins [] ws = true
begins (x ∷ xs) [] = false
begins (x ∷ xs) (w ∷ ws) = eqb x w && begins xs ws

begins_itself : (xs rest : List ℕ) → T (begins xs (xs ++ rest))
begins_itself [] rest = tt
begins_itself (x ∷ xs) rest = and_make (eqb x x) (begins xs (xs ++ rest)) (eqb_refl x) (begins_itself xs rest)

-- no answer of the list stands at the front of the words
abbrev nowhere : List ℕ → List Answer → Bool
nowhere ws [] = true
nowhere ws (a ∷ xs) = not (begins (rec_words a) ws) && nowhere ws xs

nowhere→ : (ws : List ℕ) (a : Answer) (xs : List Answer) → T (nowhere ws xs) → Memᴰ a xs → Holds ws a → ⊥
nowhere→ ws a xs t (Memᴰ.head {x = x} {xs = ys} e) h =
    let P : Answer → Type 0 = λ y. T (begins (rec_words y) ws) in
    let Q : List ℕ → Type 0 = λ y. T (begins (rec_words a) y) in
    T_not (begins (rec_words x) ws) (and_l (not (begins (rec_words x) ws)) (nowhere ws ys) t) (subst P e (subst Q (sym h.1) (begins_itself (rec_words a) h.0)))
nowhere→ ws a xs t (Memᴰ.tail {x = x} {xs = ys} m) h = nowhere→ ws a ys (and_r (not (begins (rec_words x) ws)) (nowhere ws ys) t) m h

module _ (n : EnquiryMeaning) (k : Lawful n) (q : Question) (low : q.start < n.plan.zones) where
  member : (xs : List Answer) → computed n q ≡ xs → (a : Answer) → IsAnswer n q a → Memᴰ a xs
  member xs e a i = let P : List Answer → Type 0 = λ y. Memᴰ a y in subst P e (choose_in n q k low q.choice a i.0 i.1)

  answer : (xs : List Answer) → computed n q ≡ xs → (a : Answer) → Memᴰ a xs → IsAnswer n q a
  answer xs e a m = let P : List Answer → Type 0 = λ y. Memᴰ a y in choose_are n q k low q.choice a (subst P (sym e) m)

  -- the first of all
  first_front : (a : Answer) (ys : List Answer) → computed n q ≡ a ∷ ys → T (rises a ys) → First (Left n q at_front) a
  first_front a ys e t = ((answer (a ∷ ys) e a (Memᴰ.head refl), tt), λ b i. ⊎_elim (λ (s : b ≡ a). inl s) (λ (m : Memᴰ b ys). inr (rises→ a b ys t m)) (Memᴰ.cases_cons (member (a ∷ ys) e b i.0)))

  -- what is before the one that the enquiry stands behind is not left
  gone : (b c : Answer) → Before b c → Before c b → ⊥
  gone b c g h = before_irrefl b (before_trans b c b g h)

  -- the second of three, and the third
  first_second : (a b c : Answer) → computed n q ≡ a ∷ b ∷ c ∷ [] → T (rises a (b ∷ c ∷ [])) → T (rises b (c ∷ [])) → First (Left n q (behind a)) b
  first_second a b c e r s = ((answer (a ∷ b ∷ c ∷ []) e b (Memᴰ.tail (Memᴰ.head refl)), rises→ a b (b ∷ c ∷ []) r (Memᴰ.head refl)), λ x i. go x i.1 (Memᴰ.cases_cons (member (a ∷ b ∷ c ∷ []) e x i.0)))
    where
      P : Answer → Answer → Type 0
      P x y = Before x y

      go : (x : Answer) → Before a x → (x ≡ a) ⊎ Memᴰ x (b ∷ c ∷ []) → (x ≡ b) ⊎ Before b x
      go x h (inl s₁) = absurd (before_irrefl a (subst (P a) s₁ h))
      go x h (inr m) = ⊎_elim (λ (s₁ : x ≡ b). inl s₁) (λ (m₁ : Memᴰ x (c ∷ [])). inr (rises→ b x (c ∷ []) s m₁)) (Memᴰ.cases_cons m)

  first_third : (a b c : Answer) → computed n q ≡ a ∷ b ∷ c ∷ [] → T (rises a (b ∷ c ∷ [])) → T (rises b (c ∷ [])) → First (Left n q (behind b)) c
  first_third a b c e r s = ((answer (a ∷ b ∷ c ∷ []) e c (Memᴰ.tail (Memᴰ.tail (Memᴰ.head refl))), rises→ b c (c ∷ []) s (Memᴰ.head refl)), λ x i. go x i.1 (Memᴰ.cases_cons (member (a ∷ b ∷ c ∷ []) e x i.0)))
    where
      P : Answer → Answer → Type 0
      P x y = Before x y

      ab : Before a b
      ab = rises→ a b (b ∷ c ∷ []) r (Memᴰ.head refl)

      go₁ : (x : Answer) → Before b x → (x ≡ b) ⊎ Memᴰ x (c ∷ []) → (x ≡ c) ⊎ Before c x
      go₁ x h (inl s₁) = absurd (before_irrefl b (subst (P b) s₁ h))
      go₁ x h (inr m) = ⊎_elim (λ (s₁ : x ≡ c). inl s₁) (λ (m₁ : Memᴰ x []). elim m₁ [ ]) (Memᴰ.cases_cons m)

      go : (x : Answer) → Before b x → (x ≡ a) ⊎ Memᴰ x (b ∷ c ∷ []) → (x ≡ c) ⊎ Before c x
      go x h (inl s₁) = absurd (gone a b ab (subst (P b) s₁ h))
      go x h (inr m) = go₁ x h (Memᴰ.cases_cons m)

  -- behind the third none is left
  none_third : (a b c : Answer) → computed n q ≡ a ∷ b ∷ c ∷ [] → T (rises a (b ∷ c ∷ [])) → T (rises b (c ∷ [])) → (x : Answer) → Left n q (behind c) x → ⊥
  none_third a b c e r s x i = go (Memᴰ.cases_cons (member (a ∷ b ∷ c ∷ []) e x i.0))
    where
      P : Answer → Type 0
      P y = Before c y

      go₂ : (x ≡ c) ⊎ Memᴰ x [] → ⊥
      go₂ (inl s₁) = before_irrefl c (subst P s₁ i.1)
      go₂ (inr m) = elim m [ ]

      go₁ : (x ≡ b) ⊎ Memᴰ x (c ∷ []) → ⊥
      go₁ (inl s₁) = gone b c (rises→ b c (c ∷ []) s (Memᴰ.head refl)) (subst P s₁ i.1)
      go₁ (inr m) = go₂ (Memᴰ.cases_cons m)

      go : (x ≡ a) ⊎ Memᴰ x (b ∷ c ∷ []) → ⊥
      go (inl s₁) = gone a c (rises→ a c (b ∷ c ∷ []) r (Memᴰ.tail (Memᴰ.head refl))) (subst P s₁ i.1)
      go (inr m) = go₁ (Memᴰ.cases_cons m)

  -- where there are no answers, none is left
  none_at_all : computed n q ≡ [] → (st : Standing) (x : Answer) → Left n q st x → ⊥
  none_at_all e st x i = elim (member [] e x i.0) [ ]

  -- no answer stands at the front of the words
  none_holds : (xs : List Answer) (ws : List ℕ) → computed n q ≡ xs → T (nowhere ws xs) → (a : Answer) → Holds ws a → IsAnswer n q a → ⊥
  none_holds xs ws e t a h i = nowhere→ ws a xs t (member xs e a i) h

-- the three answers from 0 to 3
abbrev line : ℕ → ℕ → Option Letter → Line
line p z m = record { number = p; reached = z; mark = m }

abbrev from_0 : List Line → Answer
from_0 ls = answer_of (record { start = 0; lines = ls })

abbrev one : Answer
one = from_0 (line 0 1 (Some A) ∷ line 2 3 (Some B) ∷ [])

abbrev two : Answer
two = from_0 (line 0 1 (Some A) ∷ line 4 2 None ∷ line 3 3 (Some B) ∷ [])

abbrev three : Answer
three = from_0 (line 1 2 (Some A) ∷ line 3 3 (Some B) ∷ [])

keeps : Lawful enquiry_e
keeps = restrictors.trail_keeps

are : computed enquiry_e (all_between 0 3) ≡ one ∷ two ∷ three ∷ []
are = refl

none : computed enquiry_e (all_between 1 3) ≡ []
none = refl

abbrev room : (k : ℕ) → T (leb 770 k) → 770 ≤ length (buffer k)
room k t = let e = length-replicate {A = ℕ} k 9 in let h = leb→le 770 k t in omega arith

-- words with no mark over 8
zero_steps : WellFormed (0 ∷ 0 ∷ [])
zero_steps = not_malformed (0 ∷ 0 ∷ []) (lit≤ tt) (lit≤ tt) (lit≤ tt) (λ j h. absurd (omega arith))

one_step : WellFormed (1 ∷ 0 ∷ 0 ∷ 1 ∷ 8 ∷ [])
one_step = not_malformed (1 ∷ 0 ∷ 0 ∷ 1 ∷ 8 ∷ []) (lit≤ tt) (lit≤ tt) (lit≤ tt) low
  where
    low : (j : ℕ) → j < 1 → get_or (1 ∷ 0 ∷ 0 ∷ 1 ∷ 8 ∷ []) (4 + 3 * j) 0 ≤ 8
    low zero h = lit≤ tt
    low (suc j) h = absurd (omega arith)

second_mark : (j : ℕ) → j < 1 → get_or (2 ∷ 0 ∷ 0 ∷ 1 ∷ 8 ∷ 2 ∷ 3 ∷ 9 ∷ []) (4 + 3 * j) 0 ≤ 8
second_mark zero h = lit≤ tt
second_mark (suc j) h = absurd (omega arith)

formed : (a : Answer) → IsAnswer enquiry_e (all_between 0 3) a → (rest : List ℕ) → WellFormed (rec_words a ++ rest)
formed a i = answer_well_formed enquiry_e keeps (all_between 0 3) a i.0

one_is : IsAnswer enquiry_e (all_between 0 3) one
one_is = answer enquiry_e keeps (all_between 0 3) (lit< tt) (one ∷ two ∷ three ∷ []) are one (Memᴰ.head refl)

two_is : IsAnswer enquiry_e (all_between 0 3) two
two_is = answer enquiry_e keeps (all_between 0 3) (lit< tt) (one ∷ two ∷ three ∷ []) are two (Memᴰ.tail (Memᴰ.head refl))

three_is : IsAnswer enquiry_e (all_between 0 3) three
three_is = answer enquiry_e keeps (all_between 0 3) (lit< tt) (one ∷ two ∷ three ∷ []) are three (Memᴰ.tail (Memᴰ.tail (Memᴰ.head refl)))

-- the run, part by part
early_goes : Goes enquiry_e unposed too_early unposed
early_goes = then_goes next_unposed (then_goes again_unposed (then_goes check_unposed (then_goes resume_unposed done)))

zones_goes : Goes enquiry_e unposed no_zones unposed
zones_goes = then_goes (no_start (lit≤ tt)) (then_goes (no_target (lit< tt) (lit≤ tt)) done)

answers_goes : Goes enquiry_e unposed no_answers (posed (all_between 1 3) at_front)
answers_goes = then_goes (poses (lit< tt) (lit< tt)) (then_goes (says_no zero_steps (holds_none (0 ∷ 0 ∷ []) tt)) (then_goes (no_answer zero_steps (holds_none (0 ∷ 0 ∷ []) tt)) (then_goes (none_left (room 770 tt) (none_at_all enquiry_e keeps (all_between 1 3) (lit< tt) none at_front)) done)))
  where
    holds_none : (ws : List ℕ) → T (nowhere ws []) → (a : Answer) → Holds ws a → IsAnswer enquiry_e (all_between 1 3) a → ⊥
    holds_none ws t = none_holds enquiry_e keeps (all_between 1 3) (lit< tt) [] ws none t

malformed_goes : Goes enquiry_e (posed (all_between 0 3) at_front) malformed (posed (all_between 0 3) at_front)
malformed_goes = then_goes (check_malformed (under_two (lit< tt))) (then_goes (check_malformed (over_256 (lit≤ tt) (lit< tt))) (then_goes (resume_malformed (too_few (lit≤ tt) (lit≤ tt) (lit< tt))) (then_goes (check_malformed (too_few (lit≤ tt) (lit≤ tt) (lit< tt))) (then_goes (resume_malformed (mark_over_8 1 (lit≤ tt) (lit≤ tt) (lit≤ tt) (lit< tt) (lit< tt) second_mark)) (then_goes (says_no one_step (none_holds enquiry_e keeps (all_between 0 3) (lit< tt) (one ∷ two ∷ three ∷ []) (1 ∷ 0 ∷ 0 ∷ 1 ∷ 8 ∷ []) are tt)) done)))))

first : First (Left enquiry_e (all_between 0 3) at_front) one
first = first_front enquiry_e keeps (all_between 0 3) (lit< tt) one (two ∷ three ∷ []) are tt

second : First (Left enquiry_e (all_between 0 3) (behind one)) two
second = first_second enquiry_e keeps (all_between 0 3) (lit< tt) one two three are tt tt

third : First (Left enquiry_e (all_between 0 3) (behind two)) three
third = first_third enquiry_e keeps (all_between 0 3) (lit< tt) one two three are tt tt

over : (x : Answer) → Left enquiry_e (all_between 0 3) (behind three) x → ⊥
over = none_third enquiry_e keeps (all_between 0 3) (lit< tt) one two three are tt tt

deliveries_goes : Goes enquiry_e (posed (all_between 0 3) at_front) deliveries (posed (all_between 0 3) (behind three))
deliveries_goes = then_goes (no_room no_770) (then_goes (delivers one (room 770 tt) first) (then_goes (says_yes three (formed three three_is (5 ∷ [])) (5 ∷ [], refl) three_is) (then_goes (delivers two (room 771 tt) second) (then_goes goes_back (then_goes (resumes two (formed two two_is (5 ∷ [])) (5 ∷ [], refl) two_is) (then_goes (delivers three (room 770 tt) third) (then_goes (none_left (room 770 tt) over) done)))))))
  where
    no_770 : length (buffer 769) < 770
    no_770 = let e = length-replicate {A = ℕ} 769 9 in omega arith

listing_goes : Goes enquiry_e (posed (all_between 0 3) (behind three)) listing_e (posed (all_between 0 3) (behind three))
listing_goes = then_goes goes_back (then_goes (delivers one (room 770 tt) first) (then_goes (says_yes one (formed one one_is []) ([], refl) one_is) (then_goes (delivers two (room 770 tt) second) (then_goes (no_target (lit< tt) (lit≤ tt)) (then_goes (no_room (lit< tt)) (then_goes (delivers three (room 770 tt) third) (then_goes (none_left (room 770 tt) over) done)))))))

run : Happens enquiry_e worked_calls
run = record { left_as = posed (all_between 0 3) (behind three); goes = goes_append early_goes (goes_append zones_goes (goes_append answers_goes (then_goes (poses (lit< tt) (lit< tt)) (goes_append malformed_goes (goes_append deliveries_goes listing_goes))))) }

none_listed : Full worked_calls (all_between 1 3) []
none_listed = record { before = too_early ++ no_zones; opening = pose 1 3 All (Ok tt); between = check (0 ∷ 0 ∷ []) (Ok false) ∷ resume (0 ∷ 0 ∷ []) (Err (Enquiry (NotAnswer 0))) ∷ []; closing = next (buffer 770) (Ok None) (buffer 770); later = pose 0 3 All (Ok tt) ∷ (malformed ++ (deliveries ++ listing_e)); parts = refl; opens = tt; stay = (tt, (tt, tt)); closes = refl; under = refl; records = refl }

three_listed : Full worked_calls (all_between 0 3) (first_record ∷ second_record ∷ third_record ∷ [])
three_listed = record { before = too_early ++ (no_zones ++ (no_answers ++ (pose 0 3 All (Ok tt) ∷ (malformed ++ deliveries)))); opening = again (Ok tt); between = next (buffer 770) (Ok (Some 8)) (first_record ++ drop 8 (buffer 770)) ∷ check first_record (Ok true) ∷ next (buffer 770) (Ok (Some 11)) (second_record ++ drop 11 (buffer 770)) ∷ pose 0 4 Shortest (Err (Enquiry (Target 4))) ∷ next [] (Err (Enquiry (Buffer 0))) [] ∷ next (buffer 770) (Ok (Some 8)) (third_record ++ drop 8 (buffer 770)) ∷ []; closing = next (buffer 770) (Ok None) (buffer 770); later = []; parts = refl; opens = tt; stay = (tt, (tt, (tt, (tt, (tt, (tt, tt)))))); closes = refl; under = refl; records = refl }

pub calls_come_out : CallsComeOut
calls_come_out = record { run = run; none_listed = none_listed; three_listed = three_listed }

-- Every list of calls has a run.
use Rattle.std.proofs.Common.{◌≡◌, ℕ, zero, suc, ◌+◌, ◌*◌, ◌<◌, ◌≤◌, ◌⊎◌, List, [], ◌∷◌, ◌++◌, map, length, get_or, sym, refl, ◌∙◌, subst, ap₂, inl, inr, ⊎_elim, arith}
use mathlib.Core.List.Memᴰ
use mathlib.Core.List.{Memᴰ}
use native.Mathlib.Decide.{dec_lt, dec_le, ℕ_discrete}
use Rattle.model.specs.declared.Choice.{Choice}
use Rattle.model.specs.declared.Choice.TheVariants.{All, Shortest}
use Rattle.model.specs.Routes.{len}
use Rattle.model.specs.Records.{Answer, Line, Lower, Level, Earlier, Before, record_of, rec_words}
use Rattle.model.specs.Questions.{EnquiryMeaning, Lawful, Question, Candidate, Chosen, IsAnswer}
use Rattle.model.specs.Calls.{State, unposed, posed, Standing, at_front, behind, First, Left, After, Holds, MalformedAt, WellFormed}
use Rattle.model.specs.Calls.MalformedAt.{under_two, over_256, too_few, mark_over_8}
use Rattle.model.specs.Calls.Pose.{no_start, no_target, poses}
use Rattle.model.specs.Calls.Next.{next_unposed, no_room, none_left, delivers}
use Rattle.model.specs.Calls.Again.{again_unposed, goes_back}
use Rattle.model.specs.Calls.Check.{check_unposed, check_malformed, says_yes, says_no}
use Rattle.model.specs.Calls.Resume.{resume_unposed, resume_malformed, no_answer, resumes}
use Rattle.model.specs.Runs.{Event, pose, next, again, check, resume, Does, Goes}
use Rattle.model.specs.Runs.Goes.{done, then_goes}
use Rattle.model.specs.Replies.{Call, pose_call, next_call, again_call, check_call, resume_call, handed, EveryListHappens, CallsAnswer}
use Rattle.model.proofs.Marks.{is_path}
use Rattle.model.proofs.Order.{compare_lines, lower_level_clash, before_trans}
use Rattle.model.proofs.Answers.{total}
use Rattle.model.proofs.Finite.{candidates, candidate_listed, listed_candidate}
use Rattle.model.proofs.Unique.{determined_replies}

-- the order is decidable
unfoldable pub dec_earlier : (xs ys : List Line) → Dec (Earlier xs ys)
dec_earlier [] [] = no (λ h. h)
dec_earlier [] (y ∷ ys) = yes tt
dec_earlier (x ∷ xs) [] = no (λ h. h)
dec_earlier (x ∷ xs) (y ∷ ys) = go (compare_lines x y) (dec_earlier xs ys)
  where
    go : Lower x y ⊎ (Level x y ⊎ Lower y x) → Dec (Earlier xs ys) → Dec (Earlier (x ∷ xs) (y ∷ ys))
    go (inl h) d = yes (inl h)
    go (inr (inl h)) (yes d) = yes (inr (h, d))
    go (inr (inl h)) (no d) = no (λ e. ⊎_elim (λ (g : Lower x y). lower_level_clash x y (inl h) g) (λ (g : Level x y × Earlier xs ys). d g.1) e)
    go (inr (inr h)) d = no (λ e. ⊎_elim (λ (g : Lower x y). lower_level_clash x y (inr h) g) (λ (g : Level x y × Earlier xs ys). lower_level_clash y x (inl (sym g.0.0, sym g.0.1)) h) e)

dec_after : (st : Standing) (a : Answer) → Dec (After st a)
dec_after at_front a = yes tt
dec_after (behind b) a = dec_earlier (record_of b).lines (record_of a).lines

-- a finite list of those that satisfy P
pub record Listed (P : Answer → Type 0) : Type 0 where
  pub these : List Answer
  pub all_in : (a : Answer) → P a → Memᴰ a these
  pub all_are : (a : Answer) → Memᴰ a these → P a

-- keep those of which Q holds
unfoldable pub filtered : (P Q : Answer → Type 0) → ((a : Answer) → P a → Dec (Q a)) → (xs : List Answer) → ((a : Answer) → Memᴰ a xs → P a) → (ys : List Answer) × ((a : Answer) → Memᴰ a xs → Q a → Memᴰ a ys) × ((a : Answer) → Memᴰ a ys → P a × Q a)
filtered P Q d [] h = ([], (λ a m q. m), (λ a m. elim m [ ]))
filtered P Q d (x ∷ xs) h = go (d x (h x (Memᴰ.head refl))) (filtered P Q d xs (λ a m. h a (Memᴰ.tail m)))
  where
    R : List Answer → Type 0
    R zs = (ys : List Answer) × ((a : Answer) → Memᴰ a zs → Q a → Memᴰ a ys) × ((a : Answer) → Memᴰ a ys → P a × Q a)

    go : Dec (Q x) → R xs → R (x ∷ xs)
    go (yes q) r = (x ∷ r.0, (λ a m w. ⊎_elim (λ (e : a ≡ x). Memᴰ.head e) (λ (k : Memᴰ a xs). Memᴰ.tail (r.1 a k w)) (Memᴰ.cases_cons m)), (λ a m. ⊎_elim (λ (e : a ≡ x). let S : Answer → Type 0 = λ z. P z × Q z in subst S (sym e) (h x (Memᴰ.head refl), q)) (λ (k : Memᴰ a r.0). r.2 a k) (Memᴰ.cases_cons m)))
    go (no q) r = (r.0, (λ a m w. ⊎_elim (λ (e : a ≡ x). absurd (q (subst Q e w))) (λ (k : Memᴰ a xs). r.1 a k w) (Memᴰ.cases_cons m)), r.2)

unfoldable pub listed_filter : (P Q : Answer → Type 0) → Listed P → ((a : Answer) → P a → Dec (Q a)) → Listed (λ a. P a × Q a)
listed_filter P Q l d = let r = filtered P Q d l.these l.all_are in record { these = r.0; all_in = λ a h. r.1 a (l.all_in a h.0) h.1; all_are = r.2 }

-- All of a list
unfoldable pub dec_all : (Q : Answer → Type 0) → ((a : Answer) → Dec (Q a)) → (xs : List Answer) → Dec ((a : Answer) → Memᴰ a xs → Q a)
dec_all Q d [] = yes (λ a m. elim m [ ])
dec_all Q d (x ∷ xs) = go (d x) (dec_all Q d xs)
  where
    go : Dec (Q x) → Dec ((a : Answer) → Memᴰ a xs → Q a) → Dec ((a : Answer) → Memᴰ a (x ∷ xs) → Q a)
    go (no q) r = no (λ f. q (f x (Memᴰ.head refl)))
    go (yes q) (no r) = no (λ f. r (λ a m. f a (Memᴰ.tail m)))
    go (yes q) (yes r) = yes (λ a m. ⊎_elim (λ (e : a ≡ x). subst Q (sym e) q) (λ (k : Memᴰ a xs). r a k) (Memᴰ.cases_cons m))

unfoldable pub listed_candidates : (n : EnquiryMeaning) → Lawful n → (q : Question) → Listed (Candidate n q)
listed_candidates n k q = go (dec_lt q.start n.plan.zones)
  where
    go : Dec (q.start < n.plan.zones) → Listed (Candidate n q)
    go (yes h) = record { these = candidates n q; all_in = candidate_listed n k q; all_are = listed_candidate n q h }
    go (no h) = record { these = []; all_in = λ a c. absurd (h (let P : ℕ → Type 0 = λ v. v < n.plan.zones in subst P c.starts (is_path c.output).0)); all_are = λ a m. elim m [ ] }

unfoldable pub dec_chosen : (n : EnquiryMeaning) (q : Question) → Listed (Candidate n q) → (c : Choice) (a : Answer) → Dec (Chosen n q c a)
dec_chosen n q l All a = yes tt
dec_chosen n q l Shortest a = go (dec_all (λ b. len a.route ≤ len b.route) (λ b. dec_le (len a.route) (len b.route)) l.these)
  where
    go : Dec ((b : Answer) → Memᴰ b l.these → len a.route ≤ len b.route) → Dec ((b : Answer) → Candidate n q b → len a.route ≤ len b.route)
    go (yes f) = yes (λ b c. f b (l.all_in b c))
    go (no f) = no (λ g. f (λ b m. g b (l.all_are b m)))

-- the answers of an enquiry are finitely many
unfoldable pub listed_answers : (n : EnquiryMeaning) → Lawful n → (q : Question) → Listed (IsAnswer n q)
listed_answers n k q = let l = listed_candidates n k q in listed_filter (Candidate n q) (Chosen n q q.choice) l (λ a c. dec_chosen n q l q.choice a)

-- the first of a finite list
first_of : (n : EnquiryMeaning) → Lawful n → (q : Question) (xs : List Answer) → ((a : Answer) → Memᴰ a xs → Candidate n q a) → ((a : Answer) → Memᴰ a xs → ⊥) ⊎ ((a : Answer) × Memᴰ a xs × ((b : Answer) → Memᴰ b xs → (b ≡ a) ⊎ Before a b))
first_of n k q [] h = inl (λ a m. elim m [ ])
first_of n k q (x ∷ xs) h = inr (go (first_of n k q xs (λ a m. h a (Memᴰ.tail m))))
  where
    R : List Answer → Type 0
    R zs = (a : Answer) × Memᴰ a zs × ((b : Answer) → Memᴰ b zs → (b ≡ a) ⊎ Before a b)

    pick : (r : R xs) → Before x r.0 ⊎ ((x ≡ r.0) ⊎ Before r.0 x) → R (x ∷ xs)
    pick r (inl l) = (x, Memᴰ.head refl, λ b m. ⊎_elim (λ (e : b ≡ x). inl e) (λ (j : Memᴰ b xs). ⊎_elim (λ (e : b ≡ r.0). let P : Answer → Type 0 = λ z. Before x z in inr (subst P (sym e) l)) (λ (g : Before r.0 b). inr (before_trans x r.0 b l g)) (r.2 b j)) (Memᴰ.cases_cons m))
    pick r (inr (inl e)) = (r.0, Memᴰ.tail r.1, λ b m. ⊎_elim (λ (f : b ≡ x). inl (f ∙ e)) (λ (j : Memᴰ b xs). r.2 b j) (Memᴰ.cases_cons m))
    pick r (inr (inr g)) = (r.0, Memᴰ.tail r.1, λ b m. ⊎_elim (λ (f : b ≡ x). let P : Answer → Type 0 = λ z. Before r.0 z in inr (subst P (sym f) g)) (λ (j : Memᴰ b xs). r.2 b j) (Memᴰ.cases_cons m))

    go : ((a : Answer) → Memᴰ a xs → ⊥) ⊎ R xs → R (x ∷ xs)
    go (inl f) = (x, Memᴰ.head refl, λ b m. ⊎_elim (λ (e : b ≡ x). inl e) (λ (j : Memᴰ b xs). absurd (f b j)) (Memᴰ.cases_cons m))
    go (inr r) = pick r (total n k q x r.0 (h x (Memᴰ.head refl)) (h r.0 (Memᴰ.tail r.1)))

pub some_first : (n : EnquiryMeaning) → Lawful n → (q : Question) (st : Standing) → ((a : Answer) → Left n q st a → ⊥) ⊎ ((a : Answer) × First (Left n q st) a)
some_first n k q st =
    let l = listed_filter (IsAnswer n q) (After st) (listed_answers n k q) (λ a i. dec_after st a) in
    ⊎_elim
    (λ (f : (a : Answer) → Memᴰ a l.these → ⊥). inl (λ a h. f a (l.all_in a h)))
    (λ (r : (a : Answer) × Memᴰ a l.these × ((b : Answer) → Memᴰ b l.these → (b ≡ a) ⊎ Before a b)). inr (r.0, (l.all_are r.0 r.1, λ b h. r.2 b (l.all_in b h))))
    (first_of n k q l.these (λ a m. (l.all_are a m).0.0))

-- malformed or not
abbrev Mark : List ℕ → ℕ → ℕ
Mark ws i = get_or ws (4 + 3 * i) 0

abbrev Bad : List ℕ → ℕ → Type 0
Bad ws m = (i : ℕ) × (i < m) × (8 < Mark ws i) × ((j : ℕ) → j < i → Mark ws j ≤ 8)

bad_mark : (ws : List ℕ) (m : ℕ) → Bad ws m ⊎ ((j : ℕ) → j < m → Mark ws j ≤ 8)
bad_mark ws zero = inr (λ j h. absurd (omega arith))
bad_mark ws (suc m) = go (bad_mark ws m) (dec_lt 8 (Mark ws m))
  where
    last : ((j : ℕ) → j < m → Mark ws j ≤ 8) → Mark ws m ≤ 8 → (j : ℕ) → Dec (j ≡ m) → j < suc m → Mark ws j ≤ 8
    last f h j (yes e) l = let P : ℕ → Type 0 = λ z. Mark ws z ≤ 8 in subst P (sym e) h
    last f h j (no e) l = f j (omega arith)

    go : Bad ws m ⊎ ((j : ℕ) → j < m → Mark ws j ≤ 8) → Dec (8 < Mark ws m) → Bad ws (suc m) ⊎ ((j : ℕ) → j < suc m → Mark ws j ≤ 8)
    go (inl b) d = inl (b.0, (let h = b.1 in up h), b.2, b.3)
      where
        up : {i : ℕ} → i < m → i < suc m
        up h = omega arith
    go (inr f) (yes d) = inl (m, omega arith, d, f)
    go (inr f) (no d) = inr (λ j l. last f (omega arith) j (ℕ_discrete j m) l)

pub not_malformed : (ws : List ℕ) → 2 ≤ length ws → get_or ws 0 0 ≤ 256 → 2 + 3 * get_or ws 0 0 ≤ length ws → ((j : ℕ) → j < get_or ws 0 0 → Mark ws j ≤ 8) → (p : ℕ) → MalformedAt ws p → ⊥
not_malformed ws a b c f p (under_two x) = omega arith
not_malformed ws a b c f p (over_256 x y) = omega arith
not_malformed ws a b c f p (too_few x y z) = omega arith
not_malformed ws a b c f p (mark_over_8 i x y z u v w) = let h = f i u in omega arith

dec_malformed : (ws : List ℕ) → ((p : ℕ) × MalformedAt ws p) ⊎ WellFormed ws
dec_malformed ws = go (dec_lt (length ws) 2) (dec_lt 256 (get_or ws 0 0)) (dec_lt (length ws) (2 + 3 * get_or ws 0 0)) (bad_mark ws (get_or ws 0 0))
  where
    go : Dec (length ws < 2) → Dec (256 < get_or ws 0 0) → Dec (length ws < 2 + 3 * get_or ws 0 0) → Bad ws (get_or ws 0 0) ⊎ ((j : ℕ) → j < get_or ws 0 0 → Mark ws j ≤ 8) → ((p : ℕ) × MalformedAt ws p) ⊎ WellFormed ws
    go (yes a) b c d = inl (length ws, under_two a)
    go (no a) (yes b) c d = inl (0, over_256 (omega arith) b)
    go (no a) (no b) (yes c) d = inl (length ws, too_few (omega arith) (omega arith) c)
    go (no a) (no b) (no c) (inl d) = inl (4 + 3 * d.0, mark_over_8 d.0 (omega arith) (omega arith) (omega arith) d.1 d.2 d.3)
    go (no a) (no b) (no c) (inr d) = inr (λ p m. not_malformed ws (omega arith) (omega arith) (omega arith) d p m)

-- a front of words or not
dec_front : (xs ws : List ℕ) → Dec ((rest : List ℕ) × (ws ≡ xs ++ rest))
dec_front [] ws = yes (ws, refl)
dec_front (x ∷ xs) [] = no (λ r. let e = r.1 in bad r.0 e)
  where
    bad : (t : List ℕ) → [] ≡ x ∷ (xs ++ t) → ⊥
    bad t e = let z : ◌≡◌ {A = ℕ} 0 1 = cc in omega arith
dec_front (x ∷ xs) (w ∷ ws) = go (ℕ_discrete w x) (dec_front xs ws)
  where
    head : (t : List ℕ) → w ∷ ws ≡ x ∷ (xs ++ t) → w ≡ x
    head t e = cc

    rest : (t : List ℕ) → w ∷ ws ≡ x ∷ (xs ++ t) → ws ≡ xs ++ t
    rest t e = cc

    go : Dec (w ≡ x) → Dec ((t : List ℕ) × (ws ≡ xs ++ t)) → Dec ((t : List ℕ) × (w ∷ ws ≡ x ∷ (xs ++ t)))
    go (yes e) (yes r) = yes (r.0, ap₂ ◌∷◌ e r.1)
    go (yes e) (no r) = no (λ t. r (t.0, rest t.0 t.1))
    go (no e) r = no (λ t. e (head t.0 t.1))

-- an answer whose record stands in front, or None
holder : (n : EnquiryMeaning) → Lawful n → (q : Question) (ws : List ℕ) → ((a : Answer) × Holds ws a × IsAnswer n q a) ⊎ ((a : Answer) → Holds ws a → IsAnswer n q a → ⊥)
holder n k q ws = go (listed_filter (IsAnswer n q) (Holds ws) (listed_answers n k q) (λ a i. dec_front (rec_words a) ws))
  where
    go' : (l : Listed (λ a. IsAnswer n q a × Holds ws a)) (xs : List Answer) → xs ≡ l.these → ((a : Answer) × Holds ws a × IsAnswer n q a) ⊎ ((a : Answer) → Holds ws a → IsAnswer n q a → ⊥)
    go' l [] e = inr (λ a h i. let M : List Answer → Type 0 = λ z. Memᴰ a z in let m : Memᴰ a [] = subst M (sym e) (l.all_in a (i, h)) in elim m [ ])
    go' l (x ∷ xs) e = let M : List Answer → Type 0 = λ z. Memᴰ x z in let r = l.all_are x (subst M e (Memᴰ.head refl)) in inl (x, r.1, r.0)

    go : Listed (λ a. IsAnswer n q a × Holds ws a) → ((a : Answer) × Holds ws a × IsAnswer n q a) ⊎ ((a : Answer) → Holds ws a → IsAnswer n q a → ⊥)
    go l = go' l l.these refl

-- every call does something
pub record Done (n : EnquiryMeaning) (s : State) (c : Call) : Type 0 where
  pub event : Event
  pub left_it : State
  pub does : Does n s event left_it
  pub was : handed event ≡ c

does_next : (n : EnquiryMeaning) → Lawful n → (s : State) (b : List ℕ) → Done n s (next_call b)
does_next n k unposed b = record { event = next b _ b; left_it = unposed; does = next_unposed; was = refl }
does_next n k (posed q st) b = go (dec_lt (length b) 770) (some_first n k q st)
  where
    go : Dec (length b < 770) → ((a : Answer) → Left n q st a → ⊥) ⊎ ((a : Answer) × First (Left n q st) a) → Done n (posed q st) (next_call b)
    go (yes h) f = record { event = next b _ b; left_it = posed q st; does = no_room h; was = refl }
    go (no h) (inl f) = record { event = next b _ b; left_it = posed q st; does = none_left (omega arith) f; was = refl }
    go (no h) (inr f) = record { event = next b _ _; left_it = posed q (behind f.0); does = delivers f.0 (omega arith) f.1; was = refl }

does_check : (n : EnquiryMeaning) → Lawful n → (s : State) (ws : List ℕ) → Done n s (check_call ws)
does_check n k unposed ws = record { event = check ws _; left_it = unposed; does = check_unposed; was = refl }
does_check n k (posed q st) ws = go (dec_malformed ws) (holder n k q ws)
  where
    go : ((p : ℕ) × MalformedAt ws p) ⊎ WellFormed ws → ((a : Answer) × Holds ws a × IsAnswer n q a) ⊎ ((a : Answer) → Holds ws a → IsAnswer n q a → ⊥) → Done n (posed q st) (check_call ws)
    go (inl m) h = record { event = check ws _; left_it = posed q st; does = check_malformed m.1; was = refl }
    go (inr m) (inl h) = record { event = check ws _; left_it = posed q st; does = says_yes h.0 m h.1 h.2; was = refl }
    go (inr m) (inr h) = record { event = check ws _; left_it = posed q st; does = says_no m h; was = refl }

does_resume : (n : EnquiryMeaning) → Lawful n → (s : State) (ws : List ℕ) → Done n s (resume_call ws)
does_resume n k unposed ws = record { event = resume ws _; left_it = unposed; does = resume_unposed; was = refl }
does_resume n k (posed q st) ws = go (dec_malformed ws) (holder n k q ws)
  where
    go : ((p : ℕ) × MalformedAt ws p) ⊎ WellFormed ws → ((a : Answer) × Holds ws a × IsAnswer n q a) ⊎ ((a : Answer) → Holds ws a → IsAnswer n q a → ⊥) → Done n (posed q st) (resume_call ws)
    go (inl m) h = record { event = resume ws _; left_it = posed q st; does = resume_malformed m.1; was = refl }
    go (inr m) (inl h) = record { event = resume ws _; left_it = posed q (behind h.0); does = resumes h.0 m h.1 h.2; was = refl }
    go (inr m) (inr h) = record { event = resume ws _; left_it = posed q st; does = no_answer m h; was = refl }

does_call : (n : EnquiryMeaning) → Lawful n → (s : State) (c : Call) → Done n s c
does_call n k s (pose_call v t c) = go (dec_lt v n.plan.zones) (dec_lt t n.plan.zones)
  where
    go : Dec (v < n.plan.zones) → Dec (t < n.plan.zones) → Done n s (pose_call v t c)
    go (no a) b = record { event = pose v t c _; left_it = s; does = no_start (omega arith); was = refl }
    go (yes a) (no b) = record { event = pose v t c _; left_it = s; does = no_target a (omega arith); was = refl }
    go (yes a) (yes b) = record { event = pose v t c _; left_it = _; does = poses a b; was = refl }
does_call n k s (next_call b) = does_next n k s b
does_call n k unposed again_call = record { event = again _; left_it = unposed; does = again_unposed; was = refl }
does_call n k (posed q st) again_call = record { event = again _; left_it = posed q at_front; does = goes_back; was = refl }
does_call n k s (check_call ws) = does_check n k s ws
does_call n k s (resume_call ws) = does_resume n k s ws

goes_on : (n : EnquiryMeaning) → Lawful n → (s : State) (cs : List Call) → (es : List Event) × (t : State) × Goes n s es t × (map handed es ≡ cs)
goes_on n k s [] = ([], s, done, refl)
goes_on n k s (c ∷ cs) =
    let d = does_call n k s c in
    let r = goes_on n k d.left_it cs in
    (d.event ∷ r.0, r.1, then_goes d.does r.2, ap₂ ◌∷◌ d.was r.3)

pub every_list : EveryListHappens
every_list n k cs = let r = goes_on n k unposed cs in record { events = r.0; happens = record { left_as = r.1; goes = r.2 }; calls_are = r.3 }

pub calls_answer : CallsAnswer
calls_answer = record { every_list = every_list; one_way = determined_replies }

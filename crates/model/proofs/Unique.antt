-- What the calls are handed determines what they reply.
use Rattle.std.proofs.Common.{◌≡◌, ℕ, ◌+◌, ◌*◌, ◌<◌, Bool, ◌⊎◌, List, [], ◌∷◌, ◌++◌, map, length, drop, Some, Ok, Err, Option, Result, sym, refl, ap, ◌∙◌, subst, ap₂, inl, inr, arith}
use native.Mathlib.Decide.{dec_lt}
use Rattle.fault.specs.declared.Fault.{Fault}
use Rattle.fault.specs.declared.Fault.TheVariants.{Enquiry}
use Rattle.fault.specs.declared.EnquiryFault.TheVariants.{Malformed}
use Rattle.model.specs.declared.Choice.{Choice}
use Rattle.model.specs.Records.{Answer, Before, rec_words}
use Rattle.model.specs.Questions.{EnquiryMeaning, Lawful}
use Rattle.model.specs.Calls.{State, posed, behind, First, Left, MalformedAt, Pose, Next, Again, Check, Resume}
use Rattle.model.specs.Calls.MalformedAt.{under_two, over_256, too_few, mark_over_8}
use Rattle.model.specs.Calls.Pose.{no_start, no_target, poses}
use Rattle.model.specs.Calls.Next.{next_unposed, no_room, none_left, delivers}
use Rattle.model.specs.Calls.Again.{again_unposed, goes_back}
use Rattle.model.specs.Calls.Check.{check_unposed, check_malformed, says_yes, says_no}
use Rattle.model.specs.Calls.Resume.{resume_unposed, resume_malformed, no_answer, resumes}
use Rattle.model.specs.Runs.{Event, pose, next, again, check, resume, Does, Goes}
use Rattle.model.specs.Runs.Goes.{then_goes}
use Rattle.model.specs.Replies.{handed, Determined}
use Rattle.model.proofs.Effects.{front_is}
use Rattle.model.proofs.Answers.{words_determine}
use Rattle.model.proofs.Order.{before_irrefl, before_trans}

one_place : {ws : List ℕ} {p q : ℕ} → MalformedAt ws p → MalformedAt ws q → p ≡ q
one_place (under_two a) (under_two b) = refl
one_place (under_two a) (over_256 b c) = absurd (omega arith)
one_place (under_two a) (too_few b c d) = refl
one_place (under_two a) (mark_over_8 i b c d e f g) = absurd (omega arith)
one_place (over_256 a b) (under_two c) = absurd (omega arith)
one_place (over_256 a b) (over_256 c d) = refl
one_place (over_256 a b) (too_few c d e) = absurd (omega arith)
one_place (over_256 a b) (mark_over_8 i c d e f g h) = absurd (omega arith)
one_place (too_few a b c) (under_two d) = refl
one_place (too_few a b c) (over_256 d e) = absurd (omega arith)
one_place (too_few a b c) (too_few d e f) = refl
one_place (too_few a b c) (mark_over_8 i d e f g h k) = absurd (omega arith)
one_place (mark_over_8 i a b c d e f) (under_two g) = absurd (omega arith)
one_place (mark_over_8 i a b c d e f) (over_256 g h) = absurd (omega arith)
one_place (mark_over_8 i a b c d e f) (too_few g h k) = absurd (omega arith)
one_place {ws} (mark_over_8 i a b c d e f) (mark_over_8 j a' b' c' d' e' f') = go (dec_lt i j) (dec_lt j i)
  where
    go : Dec (i < j) → Dec (j < i) → 4 + 3 * i ≡ 4 + 3 * j
    go (yes l) m = absurd (let x = f' i l in omega arith)
    go (no l) (yes m) = absurd (let x = f j m in omega arith)
    go (no l) (no m) = omega arith

first_one : (P : Answer → Type 0) (a b : Answer) → First P a → First P b → a ≡ b
first_one P a b f g = go (f.1 b g.0) (g.1 a f.0)
  where
    go : (b ≡ a) ⊎ Before a b → (a ≡ b) ⊎ Before b a → a ≡ b
    go (inl e) y = sym e
    go (inr h) (inl e) = e
    go (inr h) (inr k) = absurd (before_irrefl a (before_trans a b a h k))

pose_one : {n : EnquiryMeaning} {s s' s'' : State} {v t : ℕ} {c : Choice} {o o' : Result (Unit {0}) Fault} → Pose n s v t c o s' → Pose n s v t c o' s'' → (o ≡ o') × (s' ≡ s'')
pose_one (no_start a) (no_start b) = (refl, refl)
pose_one (no_start a) (no_target b c) = absurd (omega arith)
pose_one (no_start a) (poses b c) = absurd (omega arith)
pose_one (no_target a b) (no_start c) = absurd (omega arith)
pose_one (no_target a b) (no_target c d) = (refl, refl)
pose_one (no_target a b) (poses c d) = absurd (omega arith)
pose_one (poses a b) (no_start c) = absurd (omega arith)
pose_one (poses a b) (no_target c d) = absurd (omega arith)
pose_one (poses a b) (poses c d) = (refl, refl)

next_one : {n : EnquiryMeaning} {s s' s'' : State} {b b' b'' : List ℕ} {o o' : Result (Option ℕ) Fault} → Next n s b o b' s' → Next n s b o' b'' s'' → (o ≡ o') × (b' ≡ b'') × (s' ≡ s'')
next_one next_unposed next_unposed = (refl, refl, refl)
next_one (no_room a) (no_room b) = (refl, refl, refl)
next_one (no_room a) (none_left b c) = absurd (omega arith)
next_one (no_room a) (delivers x b c) = absurd (omega arith)
next_one (none_left a b) (no_room c) = absurd (omega arith)
next_one (none_left a b) (none_left c d) = (refl, refl, refl)
next_one (none_left a b) (delivers x c d) = absurd (b x d.0)
next_one (delivers x a b) (no_room c) = absurd (omega arith)
next_one (delivers x a b) (none_left c d) = absurd (d x b.0)
next_one {n} (delivers {q = q} {st = st} {buf = buf} x a b) (delivers y c d) =
    let e : x ≡ y = first_one (Left n q st) x y b d in
    (ap (λ (z : Answer). Ok (Some (length (rec_words z)))) e, ap (λ (z : Answer). rec_words z ++ drop (length (rec_words z)) buf) e, ap (λ (z : Answer). posed q (behind z)) e)

again_one : {n : EnquiryMeaning} {s s' s'' : State} {o o' : Result (Unit {0}) Fault} → Again n s o s' → Again n s o' s'' → (o ≡ o') × (s' ≡ s'')
again_one again_unposed again_unposed = (refl, refl)
again_one goes_back goes_back = (refl, refl)

check_one : {n : EnquiryMeaning} {s s' s'' : State} {ws : List ℕ} {o o' : Result Bool Fault} → Check n s ws o s' → Check n s ws o' s'' → (o ≡ o') × (s' ≡ s'')
check_one check_unposed check_unposed = (refl, refl)
check_one (check_malformed a) (check_malformed b) = (ap (λ (p : ℕ). Err (Enquiry (Malformed p))) (one_place a b), refl)
check_one (check_malformed a) (says_yes x b c d) = absurd (b _ a)
check_one (check_malformed a) (says_no b c) = absurd (b _ a)
check_one (says_yes x a b c) (check_malformed d) = absurd (a _ d)
check_one (says_yes x a b c) (says_yes y d e f) = (refl, refl)
check_one (says_yes x a b c) (says_no d e) = absurd (e x b c)
check_one (says_no a b) (check_malformed c) = absurd (a _ c)
check_one (says_no a b) (says_yes x c d e) = absurd (b x d e)
check_one (says_no a b) (says_no c d) = (refl, refl)

resume_one : {n : EnquiryMeaning} {s s' s'' : State} {ws : List ℕ} {o o' : Result (Unit {0}) Fault} → Lawful n → Resume n s ws o s' → Resume n s ws o' s'' → (o ≡ o') × (s' ≡ s'')
resume_one k resume_unposed resume_unposed = (refl, refl)
resume_one k (resume_malformed a) (resume_malformed b) = (ap (λ (p : ℕ). Err (Enquiry (Malformed p))) (one_place a b), refl)
resume_one k (resume_malformed a) (no_answer b c) = absurd (b _ a)
resume_one k (resume_malformed a) (resumes x b c d) = absurd (b _ a)
resume_one k (no_answer a b) (resume_malformed c) = absurd (a _ c)
resume_one k (no_answer a b) (no_answer c d) = (refl, refl)
resume_one k (no_answer a b) (resumes x c d e) = absurd (b x d e)
resume_one k (resumes x a b c) (resume_malformed d) = absurd (a _ d)
resume_one k (resumes x a b c) (no_answer d e) = absurd (e x b c)
resume_one {n} k (resumes {q = q} {ws = ws} x a b c) (resumes y d e f) =
    let g : x ≡ y = words_determine n n k k q q x y c.0 f.0 (sym (front_is ws x b) ∙ front_is ws y e) in
    (refl, ap (λ (z : Answer). posed q (behind z)) g)

clash : {X : Type 0} → ◌≡◌ {A = ℕ} 0 1 → X
clash z = absurd (omega arith)

does_one : (n : EnquiryMeaning) → Lawful n → (s s' s'' : State) (e f : Event) → handed e ≡ handed f → Does n s e s' → Does n s f s'' → (e ≡ f) × (s' ≡ s'')
does_one n k s s' s'' (pose v t c o) (pose v₂ t₂ c₂ o₂) h d g =
    let ev : v ≡ v₂ = cc in
    let et : t ≡ t₂ = cc in
    let ec : c ≡ c₂ = cc in
    let P : ℕ → Type 0 = λ x. Pose n s x t₂ c₂ o₂ s'' in
    let Q : ℕ → Type 0 = λ x. Pose n s v x c₂ o₂ s'' in
    let R : Choice → Type 0 = λ x. Pose n s v t x o₂ s'' in
    let r = pose_one d (subst R (sym ec) (subst Q (sym et) (subst P (sym ev) g))) in
    ((λ i. pose (ev i) (et i) (ec i) (r.0 i)), r.1)
does_one n k s s' s'' (pose v t c o) (next b₂ o₂ b₂') h d g = let z : ◌≡◌ {A = ℕ} 0 1 = cc in clash z
does_one n k s s' s'' (pose v t c o) (again o₂) h d g = let z : ◌≡◌ {A = ℕ} 0 1 = cc in clash z
does_one n k s s' s'' (pose v t c o) (check ws₂ o₂) h d g = let z : ◌≡◌ {A = ℕ} 0 1 = cc in clash z
does_one n k s s' s'' (pose v t c o) (resume ws₂ o₂) h d g = let z : ◌≡◌ {A = ℕ} 0 1 = cc in clash z
does_one n k s s' s'' (next b o b') (pose v₂ t₂ c₂ o₂) h d g = let z : ◌≡◌ {A = ℕ} 0 1 = cc in clash z
does_one n k s s' s'' (next b o b') (next b₂ o₂ b₂') h d g =
    let eb : b ≡ b₂ = cc in
    let P : List ℕ → Type 0 = λ x. Next n s x o₂ b₂' s'' in
    let r = next_one d (subst P (sym eb) g) in
    ((λ i. next (eb i) (r.0 i) (r.1 i)), r.2)
does_one n k s s' s'' (next b o b') (again o₂) h d g = let z : ◌≡◌ {A = ℕ} 0 1 = cc in clash z
does_one n k s s' s'' (next b o b') (check ws₂ o₂) h d g = let z : ◌≡◌ {A = ℕ} 0 1 = cc in clash z
does_one n k s s' s'' (next b o b') (resume ws₂ o₂) h d g = let z : ◌≡◌ {A = ℕ} 0 1 = cc in clash z
does_one n k s s' s'' (again o) (pose v₂ t₂ c₂ o₂) h d g = let z : ◌≡◌ {A = ℕ} 0 1 = cc in clash z
does_one n k s s' s'' (again o) (next b₂ o₂ b₂') h d g = let z : ◌≡◌ {A = ℕ} 0 1 = cc in clash z
does_one n k s s' s'' (again o) (again o₂) h d g =
    let r = again_one d g in
    ((λ i. again (r.0 i)), r.1)
does_one n k s s' s'' (again o) (check ws₂ o₂) h d g = let z : ◌≡◌ {A = ℕ} 0 1 = cc in clash z
does_one n k s s' s'' (again o) (resume ws₂ o₂) h d g = let z : ◌≡◌ {A = ℕ} 0 1 = cc in clash z
does_one n k s s' s'' (check ws o) (pose v₂ t₂ c₂ o₂) h d g = let z : ◌≡◌ {A = ℕ} 0 1 = cc in clash z
does_one n k s s' s'' (check ws o) (next b₂ o₂ b₂') h d g = let z : ◌≡◌ {A = ℕ} 0 1 = cc in clash z
does_one n k s s' s'' (check ws o) (again o₂) h d g = let z : ◌≡◌ {A = ℕ} 0 1 = cc in clash z
does_one n k s s' s'' (check ws o) (check ws₂ o₂) h d g =
    let eb : ws ≡ ws₂ = cc in
    let P : List ℕ → Type 0 = λ x. Check n s x o₂ s'' in
    let r = check_one d (subst P (sym eb) g) in
    ((λ i. check (eb i) (r.0 i)), r.1)
does_one n k s s' s'' (check ws o) (resume ws₂ o₂) h d g = let z : ◌≡◌ {A = ℕ} 0 1 = cc in clash z
does_one n k s s' s'' (resume ws o) (pose v₂ t₂ c₂ o₂) h d g = let z : ◌≡◌ {A = ℕ} 0 1 = cc in clash z
does_one n k s s' s'' (resume ws o) (next b₂ o₂ b₂') h d g = let z : ◌≡◌ {A = ℕ} 0 1 = cc in clash z
does_one n k s s' s'' (resume ws o) (again o₂) h d g = let z : ◌≡◌ {A = ℕ} 0 1 = cc in clash z
does_one n k s s' s'' (resume ws o) (check ws₂ o₂) h d g = let z : ◌≡◌ {A = ℕ} 0 1 = cc in clash z
does_one n k s s' s'' (resume ws o) (resume ws₂ o₂) h d g =
    let eb : ws ≡ ws₂ = cc in
    let P : List ℕ → Type 0 = λ x. Resume n s x o₂ s'' in
    let r = resume_one k d (subst P (sym eb) g) in
    ((λ i. resume (eb i) (r.0 i)), r.1)

goes_one : (n : EnquiryMeaning) → Lawful n → (s t u : State) (es fs : List Event) → map handed es ≡ map handed fs → Goes n s es t → Goes n s fs u → es ≡ fs
goes_one n k s t u [] [] h d g = refl
goes_one n k s t u [] (f ∷ fs) h d g = let z : ◌≡◌ {A = ℕ} 0 1 = cc in clash z
goes_one n k s t u (e ∷ es) [] h d g = let z : ◌≡◌ {A = ℕ} 0 1 = cc in clash z
goes_one n k s t u (e ∷ es) (f ∷ fs) h (then_goes {t = t₁} d ds) (then_goes {t = t₂} g gs) =
    let a : handed e ≡ handed f = cc in
    let b : map handed es ≡ map handed fs = cc in
    let r = does_one n k s t₁ t₂ e f a d g in
    let P : State → Type 0 = λ x. Goes n x fs u in
    ap₂ ◌∷◌ r.0 (goes_one n k t₁ t u es fs b ds (subst P (sym r.1) gs))

pub determined_replies : Determined
determined_replies n k es fs h g e = goes_one n k _ h.left_as g.left_as es fs e h.goes g.goes

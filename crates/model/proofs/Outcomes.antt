-- An example comes out if its answers, computed, are its table.
use Rattle.std.proofs.Common.{◌≡◌, ℕ, ◌<◌, ◌≤◌, Bool, true, false, cond, ◌&&◌, ◌||◌, T, eqb, ltb, leb, ◌⊎◌, List, [], ◌∷◌, map, reverse, sym, refl, ap, ◌∙◌, subst, inl, inr, ⊎_elim, le→leb, eqb→eq, ltb→lt, leb→le}
use mathlib.Core.List.Memᴰ
use mathlib.Core.List.{reverse-reverse, Memᴰ}
use lib.Ieee.Fits.{and_l, and_r}
use Rattle.model.specs.declared.Choice.{Choice}
use Rattle.model.specs.declared.Choice.TheVariants.{All, Shortest}
use Rattle.model.specs.Routes.{len}
use Rattle.model.specs.Records.{Answer, Line, mark_word, Earlier, Before, record_of, rec_words}
use Rattle.model.specs.Questions.{EnquiryMeaning, Lawful, Question, Candidate, Chosen, IsAnswer}
use Rattle.model.specs.Examples.{ComesOut, Example}
use Rattle.model.proofs.Order.{before_trans}
use Rattle.model.proofs.Bools.{and_make, or_cases}
use Rattle.model.proofs.Progress.{Whole, Descending, one_list}
use Rattle.model.proofs.RunLaws.{whole_full}
use Rattle.model.proofs.Total.{Listed}
use Rattle.model.proofs.Finite.{candidates, candidate_listed, listed_candidate}
use Rattle.model.proofs.Members.{map_mem, mem_map}

-- Booleans that compute
abbrev pub least : Answer → List Answer → Bool
least a [] = true
least a (b ∷ bs) = leb (len a.route) (len b.route) && least a bs

least→ : (a b : Answer) (xs : List Answer) → T (least a xs) → Memᴰ b xs → len a.route ≤ len b.route
least→ a b xs t (Memᴰ.head {x = x} {xs = ys} e) = let P : Answer → Type 0 = λ z. len a.route ≤ len z.route in subst P (sym e) (leb→le (len a.route) (len x.route) (and_l (leb (len a.route) (len x.route)) (least a ys) t))
least→ a b xs t (Memᴰ.tail {x = x} {xs = ys} m) = least→ a b ys (and_r (leb (len a.route) (len x.route)) (least a ys) t) m

→least : (a : Answer) (xs : List Answer) → ((b : Answer) → Memᴰ b xs → len a.route ≤ len b.route) → T (least a xs)
→least a [] h = tt
→least a (x ∷ xs) h = and_make (leb (len a.route) (len x.route)) (least a xs) (le→leb (len a.route) (len x.route) (h x (Memᴰ.head refl))) (→least a xs (λ b m. h b (Memᴰ.tail m)))

abbrev pub keep : (Answer → Bool) → List Answer → List Answer
keep f [] = []
keep f (x ∷ xs) = cond (f x) (x ∷ keep f xs) (keep f xs)

keep→ : (f : Answer → Bool) (a : Answer) (xs : List Answer) → Memᴰ a (keep f xs) → T (f a) × Memᴰ a xs
keep→ f a [] m = elim m [ ]
keep→ f a (x ∷ xs) m = go (f x) refl m (λ k. keep→ f a xs k)
  where
    B : Bool → Type 0
    B z = T z

    P : Answer → Type 0
    P z = T (f z)

    go : (b : Bool) → f x ≡ b → Memᴰ a (cond b (x ∷ keep f xs) (keep f xs)) → (Memᴰ a (keep f xs) → T (f a) × Memᴰ a xs) → T (f a) × Memᴰ a (x ∷ xs)
    go true e k r = ⊎_elim (λ (i : a ≡ x). (subst P (sym i) (subst B (sym e) tt), Memᴰ.head i)) (λ (j : Memᴰ a (keep f xs)). ((r j).0, Memᴰ.tail (r j).1)) (Memᴰ.cases_cons k)
    go false e k r = ((r k).0, Memᴰ.tail (r k).1)

→keep : (f : Answer → Bool) (a : Answer) (xs : List Answer) → T (f a) → Memᴰ a xs → Memᴰ a (keep f xs)
→keep f a xs t (Memᴰ.head {x = x} {xs = ys} e) = let P : Answer → Type 0 = λ z. T (f z) in go (f x) (subst P e t)
  where
    go : (b : Bool) → T b → Memᴰ a (cond b (x ∷ keep f ys) (keep f ys))
    go true u = Memᴰ.head e
    go false u = absurd u
→keep f a xs t (Memᴰ.tail {x = x} {xs = ys} m) = go (f x) (→keep f a ys t m)
  where
    go : (b : Bool) → Memᴰ a (keep f ys) → Memᴰ a (cond b (x ∷ keep f ys) (keep f ys))
    go true k = Memᴰ.tail k
    go false k = k

abbrev pub choose : Choice → List Answer → List Answer
choose All xs = xs
choose Shortest xs = keep (λ a. least a xs) xs

-- the answers, computed
abbrev pub computed : EnquiryMeaning → Question → List Answer
computed n q = choose q.choice (candidates n q)

pub choose_in : (n : EnquiryMeaning) (q : Question) → Lawful n → q.start < n.plan.zones → (c : Choice) (a : Answer) → Candidate n q a → Chosen n q c a → Memᴰ a (choose c (candidates n q))
choose_in n q k h All a i j = candidate_listed n k q a i
choose_in n q k h Shortest a i j = →keep (λ x. least x (candidates n q)) a (candidates n q) (→least a (candidates n q) (λ b m. j b (listed_candidate n q h b m))) (candidate_listed n k q a i)

pub choose_are : (n : EnquiryMeaning) (q : Question) → Lawful n → q.start < n.plan.zones → (c : Choice) (a : Answer) → Memᴰ a (choose c (candidates n q)) → Candidate n q a × Chosen n q c a
choose_are n q k h All a m = (listed_candidate n q h a m, tt)
choose_are n q k h Shortest a m = let r = keep→ (λ x. least x (candidates n q)) a (candidates n q) m in (listed_candidate n q h a r.1, λ b c. least→ a b (candidates n q) r.0 (candidate_listed n k q b c))

abbrev pub below : List Line → List Line → Bool
below [] [] = false
below [] (y ∷ ys) = true
below (x ∷ xs) [] = false
below (x ∷ xs) (y ∷ ys) = ltb x.number y.number || (eqb x.number y.number && (ltb (mark_word x.mark) (mark_word y.mark) || (eqb (mark_word x.mark) (mark_word y.mark) && below xs ys)))

pub below→ : (xs ys : List Line) → T (below xs ys) → Earlier xs ys
below→ [] [] t = t
below→ [] (y ∷ ys) t = tt
below→ (x ∷ xs) [] t = t
below→ (x ∷ xs) (y ∷ ys) t = go (or_cases (ltb x.number y.number) same_number t) (λ u. below→ xs ys u)
  where
    same_mark : Bool
    same_mark = eqb (mark_word x.mark) (mark_word y.mark) && below xs ys

    higher : Bool
    higher = ltb (mark_word x.mark) (mark_word y.mark) || same_mark

    same_number : Bool
    same_number = eqb x.number y.number && higher

    go2 : x.number ≡ y.number → T (ltb (mark_word x.mark) (mark_word y.mark)) ⊎ T same_mark → (T (below xs ys) → Earlier xs ys) → Earlier (x ∷ xs) (y ∷ ys)
    go2 e (inl u) f = inl (inr (e, ltb→lt (mark_word x.mark) (mark_word y.mark) u))
    go2 e (inr u) f = inr ((e, eqb→eq (mark_word x.mark) (mark_word y.mark) (and_l (eqb (mark_word x.mark) (mark_word y.mark)) (below xs ys) u)), f (and_r (eqb (mark_word x.mark) (mark_word y.mark)) (below xs ys) u))

    go : T (ltb x.number y.number) ⊎ T same_number → (T (below xs ys) → Earlier xs ys) → Earlier (x ∷ xs) (y ∷ ys)
    go (inl u) f = inl (inl (ltb→lt x.number y.number u))
    go (inr u) f = go2 (eqb→eq x.number y.number (and_l (eqb x.number y.number) higher u)) (or_cases (ltb (mark_word x.mark) (mark_word y.mark)) same_mark (and_r (eqb x.number y.number) higher u)) f

-- each is before the one before it in the list
abbrev pub falls : Answer → List Answer → Bool
falls a [] = true
falls a (b ∷ bs) = below (record_of b).lines (record_of a).lines && falls b bs

abbrev pub falling : List Answer → Bool
falling [] = true
falling (a ∷ xs) = falls a xs

falls→ : (a : Answer) (xs : List Answer) → T (falls a xs) → Descending (a ∷ xs)
falls→ a [] t = ((λ b m. elim m [ ]), tt)
falls→ a (b ∷ bs) t =
    let h : Before b a = below→ (record_of b).lines (record_of a).lines (and_l (below (record_of b).lines (record_of a).lines) (falls b bs) t) in
    let r = falls→ b bs (and_r (below (record_of b).lines (record_of a).lines) (falls b bs) t) in
    ((λ c m. ⊎_elim (λ (e : c ≡ b). let P : Answer → Type 0 = λ z. Before z a in subst P (sym e) h) (λ (k : Memᴰ c bs). before_trans c b a (r.0 c k) h) (Memᴰ.cases_cons m)), r)

falling→ : (xs : List Answer) → T (falling xs) → Descending xs
falling→ [] t = tt
falling→ (a ∷ xs) t = falls→ a xs t

-- membership in the reverse
module _ {X : Type 0} where
  mem_aux : (x : X) (xs ys : List X) → Memᴰ x (mathlib.Core.List.reverse_aux xs ys) → Memᴰ x xs ⊎ Memᴰ x ys
  mem_aux x [] ys m = inr m
  mem_aux x (z ∷ zs) ys m = go (mem_aux x zs (z ∷ ys) m)
    where
      go : Memᴰ x zs ⊎ Memᴰ x (z ∷ ys) → Memᴰ x (z ∷ zs) ⊎ Memᴰ x ys
      go (inl a) = inl (Memᴰ.tail a)
      go (inr a) = ⊎_elim (λ (e : x ≡ z). inl (Memᴰ.head e)) (λ (k : Memᴰ x ys). inr k) (Memᴰ.cases_cons a)

  mem_reverse : (x : X) (xs : List X) → Memᴰ x (reverse xs) → Memᴰ x xs
  mem_reverse x xs m = ⊎_elim (λ (a : Memᴰ x xs). a) (λ (a : Memᴰ x []). elim a [ ]) (mem_aux x xs [] m)

  reverse_mem : (x : X) (xs : List X) → Memᴰ x xs → Memᴰ x (reverse xs)
  reverse_mem x xs m = mem_reverse x (reverse xs) (let P : List X → Type 0 = λ z. Memᴰ x z in subst P (sym (reverse-reverse xs)) m)

reverse_map : (xs ys : List Answer) → map rec_words (mathlib.Core.List.reverse_aux xs ys) ≡ mathlib.Core.List.reverse_aux (map rec_words xs) (map rec_words ys)
reverse_map [] ys = refl
reverse_map (x ∷ xs) ys = reverse_map xs (x ∷ ys)

pub comes_out : (t : Example) → Lawful t.enquiry → T (ltb t.question.start t.enquiry.plan.zones) → map rec_words (computed t.enquiry t.question) ≡ t.table → T (falling (reverse (computed t.enquiry t.question))) → ComesOut t
comes_out t k z e d = record { answers_in = there; only_answers = back; listing = λ es ls h f. lists ls (whole_full n es q ls h f) }
  where
    n : EnquiryMeaning
    n = t.enquiry

    q : Question
    q = t.question

    low : q.start < n.plan.zones
    low = ltb→lt q.start n.plan.zones z

    l : Listed (IsAnswer n q)
    l = record { these = computed n q; all_in = λ a i. choose_in n q k low q.choice a i.0 i.1; all_are = λ a m. choose_are n q k low q.choice a m }

    there : (a : Answer) → IsAnswer n q a → Memᴰ (rec_words a) t.table
    there a i = let P : List (List ℕ) → Type 0 = λ z. Memᴰ (rec_words a) z in subst P e (mem_map rec_words a l.these (l.all_in a i))

    back : (w : List ℕ) → Memᴰ w t.table → (a : Answer) × IsAnswer n q a × (w ≡ rec_words a)
    back w m = let P : List (List ℕ) → Type 0 = λ z. Memᴰ w z in let r = map_mem rec_words w l.these (subst P (sym e) m) in (r.0, l.all_are r.0 r.1, r.2)

    lists : (ls : List (List ℕ)) → Whole n q ls → ls ≡ t.table
    lists ls w =
        let x : w.given ≡ reverse l.these = one_list w.given (reverse l.these) w.descends (falling→ (reverse l.these) d) (λ a m. reverse_mem a l.these (l.all_in a (w.are_answers a m))) (λ a m. w.complete a (l.all_are a (mem_reverse a l.these m))) in
        w.words_are ∙ ap (λ (z : List Answer). reverse (map rec_words z)) x ∙ sym (reverse_map (reverse l.these) []) ∙ ap (λ (z : List Answer). map rec_words z) (reverse-reverse l.these) ∙ e

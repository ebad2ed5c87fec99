-- How a listing grows, and what a whole one holds.
use Rattle.std.proofs.Common.{◌≡◌, ℕ, ◌⊎◌, ◌↔◌, List, [], ◌∷◌, ◌++◌, map, reverse, Some, Option, sym, refl, ap, ◌∙◌, subst, ap₂, inl, inr, ⊎_elim}
use mathlib.Core.List.Memᴰ
use mathlib.Core.List.{reverse-cons, reverse-reverse, Memᴰ}
use Rattle.model.specs.Records.{Answer, Before, rec_words}
use Rattle.model.specs.Questions.{EnquiryMeaning, Lawful, Question, IsAnswer, SameAnswers}
use Rattle.model.specs.Calls.{State, unposed, posed, Standing, at_front, behind, First, Left, After}
use Rattle.model.specs.Runs.{asks, starts_over, gives, ends_list, idle}
use Rattle.model.proofs.Effects.{Effect, eff_asks, eff_over, eff_gives, eff_ends, eff_idle}
use Rattle.model.proofs.Standings.{Tied}
use Rattle.model.proofs.Order.{before_irrefl, before_trans}
use Rattle.model.proofs.Answers.{words_determine}
use Rattle.model.proofs.Members.{map_mem, mem_map}

-- every one of the list is before a
abbrev pub Above : Answer → List Answer → Type 0
Above a bs = (b : Answer) → Memᴰ b bs → Before b a

abbrev pub Descending : List Answer → Type 0
Descending [] = Unit {0}
Descending (a ∷ xs) = Above a xs × Descending xs

pub mem_cases : {b a : Answer} {xs : List Answer} → Memᴰ b (a ∷ xs) → (b ≡ a) ⊎ Memᴰ b xs
mem_cases m = Memᴰ.cases_cons m

-- a descending list is determined by its members
pub one_list : (xs bs : List Answer) → Descending xs → Descending bs → ((x : Answer) → Memᴰ x xs → Memᴰ x bs) → ((x : Answer) → Memᴰ x bs → Memᴰ x xs) → xs ≡ bs
one_list [] [] d e f g = refl
one_list [] (b ∷ bs) d e f g = elim (g b (Memᴰ.head refl)) [ ]
one_list (a ∷ xs) [] d e f g = elim (f a (Memᴰ.head refl)) [ ]
one_list (a ∷ xs) (b ∷ bs) d e f g = ap₂ ◌∷◌ heads (one_list xs bs d.1 e.1 (λ x m. down x m) (λ x m. up x m))
  where
    pick : (a ≡ b) ⊎ Memᴰ a bs → (b ≡ a) ⊎ Memᴰ b xs → a ≡ b
    pick (inl p) s = p
    pick (inr m) (inl p) = sym p
    pick (inr m) (inr k) = absurd (before_irrefl a (before_trans a b a (e.0 a m) (d.0 b k)))

    heads : a ≡ b
    heads = pick (mem_cases (f a (Memᴰ.head refl))) (mem_cases (g b (Memᴰ.head refl)))

    down_case : (x : Answer) → Memᴰ x xs → (x ≡ b) ⊎ Memᴰ x bs → Memᴰ x bs
    down_case x m (inl p) = absurd (before_irrefl a (let P : Answer → Type 0 = λ y. Before y a in subst P (p ∙ sym heads) (d.0 x m)))
    down_case x m (inr k) = k

    down : (x : Answer) → Memᴰ x xs → Memᴰ x bs
    down x m = down_case x m (mem_cases (f x (Memᴰ.tail m)))

    up_case : (x : Answer) → Memᴰ x bs → (x ≡ a) ⊎ Memᴰ x xs → Memᴰ x xs
    up_case x m (inl p) = absurd (before_irrefl b (let P : Answer → Type 0 = λ y. Before y b in subst P (p ∙ heads) (e.0 x m)))
    up_case x m (inr k) = k

    up : (x : Answer) → Memᴰ x bs → Memᴰ x xs
    up x m = up_case x m (mem_cases (g x (Memᴰ.tail m)))

-- the enquiry stands behind the last of the list, the latest first
abbrev pub Stands : List Answer → Standing → Type 0
Stands [] at_front = Unit {0}
Stands [] (behind b) = ⊥
Stands (a ∷ xs) at_front = ⊥
Stands (a ∷ xs) (behind b) = a ≡ b

pub record Progress (n : EnquiryMeaning) (q : Question) (st : Standing) (ws : List (List ℕ)) : Type 0 where
  pub given : List Answer
  pub words_are : ws ≡ reverse (map rec_words given)
  pub stands : Stands given st
  pub descends : Descending given
  pub are_answers : (x : Answer) → Memᴰ x given → IsAnswer n q x
  pub complete : (x : Answer) → IsAnswer n q x → Memᴰ x given ⊎ After st x

abbrev pub Prog : EnquiryMeaning → State → List (List ℕ) → Type 0
Prog n unposed ws = ⊥
Prog n (posed q st) ws = Progress n q st ws

unfoldable pub fresh : (n : EnquiryMeaning) (q : Question) → Progress n q at_front []
fresh n q = record { given = []; words_are = refl; stands = tt; descends = tt; are_answers = λ x m. elim m [ ]; complete = λ x i. inr tt }

-- All given so far are before the next one
pub above_next : (xs : List Answer) (st : Standing) (a : Answer) → Stands xs st → Descending xs → After st a → Above a xs
above_next [] st a s d f b m = elim m [ ]
above_next (c ∷ xs) at_front a s d f b m = absurd s
above_next (c ∷ xs) (behind e) a s d f b m =
    let P : Answer → Type 0 = λ y. Before y a in
    let g : Before c a = subst P (sym s) f in
    ⊎_elim (λ (p : b ≡ c). subst P (sym p) g) (λ (k : Memᴰ b xs). before_trans b c a (d.0 b k) g) (mem_cases m)

unfoldable pub give : (n : EnquiryMeaning) (q : Question) (st : Standing) (ws : List (List ℕ)) (w : List ℕ) (a : Answer) → First (Left n q st) a → w ≡ rec_words a → Progress n q st ws → Progress n q (behind a) (ws ++ (w ∷ []))
give n q st ws w a f e p = record {
  given = a ∷ p.given;
  words_are = ap₂ (λ (u : List (List ℕ)) (v : List ℕ). u ++ (v ∷ [])) p.words_are e ∙ sym (reverse-cons (rec_words a) (map rec_words p.given));
  stands = refl;
  descends = (above_next p.given st a p.stands p.descends f.0.1, p.descends);
  are_answers = λ x m. ans x (mem_cases m);
  complete = λ x i. comp x i (p.complete x i);
}
  where
    ans : (x : Answer) → (x ≡ a) ⊎ Memᴰ x p.given → IsAnswer n q x
    ans x (inl s) = let P : Answer → Type 0 = λ y. IsAnswer n q y in subst P (sym s) f.0.0
    ans x (inr m) = p.are_answers x m

    comp : (x : Answer) → IsAnswer n q x → Memᴰ x p.given ⊎ After st x → Memᴰ x (a ∷ p.given) ⊎ Before a x
    comp x i (inl m) = inl (Memᴰ.tail m)
    comp x i (inr k) = ⊎_elim (λ (s : x ≡ a). inl (Memᴰ.head s)) (λ (g : Before a x). inr g) (f.1 x (i, k))

-- by what an event says
pub asks_step : (n : EnquiryMeaning) (s s' : State) (q : Question) → Effect n s (asks q) s' → Prog n s' []
asks_step n s s' q eff_asks = fresh n q

pub over_step : (n : EnquiryMeaning) (s s' : State) → Effect n s starts_over s' → Prog n s' []
over_step n s s' (eff_over {q = q}) = fresh n q

pub gives_step : (n : EnquiryMeaning) (s s' : State) (w : List ℕ) (ws : List (List ℕ)) → Effect n s (gives w) s' → Prog n s ws → Prog n s' (ws ++ (w ∷ []))
gives_step n s s' w ws (eff_gives {q = q} {st = st} a f e) p = give n q st ws w a f e p

pub idle_step : (n : EnquiryMeaning) (s s' : State) (ws : List (List ℕ)) → Effect n s idle s' → Prog n s ws → Prog n s' ws
idle_step n s s' ws eff_idle p = p

-- a full listing holds the answers, each once, in order
pub record Whole (n : EnquiryMeaning) (q : Question) (ws : List (List ℕ)) : Type 0 where
  pub given : List Answer
  pub words_are : ws ≡ reverse (map rec_words given)
  pub descends : Descending given
  pub are_answers : (x : Answer) → Memᴰ x given → IsAnswer n q x
  pub complete : (x : Answer) → IsAnswer n q x → Memᴰ x given

abbrev pub WholeAt : EnquiryMeaning → State → List (List ℕ) → Type 0
WholeAt n unposed ws = ⊥
WholeAt n (posed q st) ws = Whole n q ws

pub end_whole : (n : EnquiryMeaning) (q : Question) (st : Standing) (ws : List (List ℕ)) → ((a : Answer) → Left n q st a → ⊥) → Progress n q st ws → Whole n q ws
end_whole n q st ws f p = record { given = p.given; words_are = p.words_are; descends = p.descends; are_answers = p.are_answers; complete = λ x i. ⊎_elim (λ (m : Memᴰ x p.given). m) (λ (k : After st x). absurd (f x (i, k))) (p.complete x i) }

pub ends_step : (n : EnquiryMeaning) (s s' : State) (ws : List (List ℕ)) → Effect n s ends_list s' → Prog n s ws → WholeAt n s' ws
ends_step n s s' ws (eff_ends {q = q} {st = st} f) p = end_whole n q st ws f p

pub to_whole : (n : EnquiryMeaning) (o : Option Question) (l : Option (List ℕ)) (s : State) (q : Question) (ws : List (List ℕ)) → Tied n o l s → o ≡ Some q → WholeAt n s ws → Whole n q ws
to_whole n o l unposed q ws t e w = absurd w
to_whole n o l (posed u st) q ws t e w =
    let f : u ≡ q = cc (t.0, e) in
    let P : Question → Type 0 = λ x. Whole n x ws in
    subst P f w

-- equal listings, same answers: one way
pub carry : (n m : EnquiryMeaning) → Lawful n → Lawful m → (q u : Question) (ls ms : List (List ℕ)) → Whole n q ls → Whole m u ms → ls ≡ ms → (a : Answer) → IsAnswer n q a → IsAnswer m u a
carry n m kn km q u ls ms x y e a i =
    let f : map rec_words x.given ≡ map rec_words y.given = sym (reverse-reverse (map rec_words x.given)) ∙ ap reverse (sym x.words_are ∙ e ∙ y.words_are) ∙ reverse-reverse (map rec_words y.given) in
    let P : List (List ℕ) → Type 0 = λ ws. Memᴰ (rec_words a) ws in
    let k = map_mem rec_words (rec_words a) y.given (subst P f (mem_map rec_words a x.given (x.complete a i))) in
    let j : IsAnswer m u k.0 = y.are_answers k.0 k.1 in
    let Q : Answer → Type 0 = λ b. IsAnswer m u b in
    subst Q (sym (words_determine n m kn km q u a k.0 i.0 j.0 k.2)) j

pub from_wholes : (n m : EnquiryMeaning) → Lawful n → Lawful m → (q u : Question) (ls ms : List (List ℕ)) → Whole n q ls → Whole m u ms → (ls ≡ ms) ↔ SameAnswers n q m u
from_wholes n m kn km q u ls ms x y = ((λ p a. (carry n m kn km q u ls ms x y p a, carry m n km kn u q ms ls y x (sym p) a)), λ g. x.words_are ∙ ap (λ (xs : List Answer). reverse (map rec_words xs)) (one_list x.given y.given x.descends y.descends (λ b i. y.complete b ((g b).0 (x.are_answers b i))) (λ b i. x.complete b ((g b).1 (y.are_answers b i)))) ∙ sym y.words_are)

-- Where no passage repeats, marks and lists determine each other; words determine their record.
use Rattle.std.proofs.Common.{◌≡◌, ℕ, zero, suc, ◌<◌, Bool, true, false, cond, T, eqb, List, [], ◌∷◌, map, length, get_or, Some, None, Option, sym, refl, ap, ◌∙◌, arith, eqb→eq}
use lib.Dec.{eqb_refl}
use Rattle.model.specs.Routes.{Step}
use Rattle.model.specs.Patterns.{Letter, A, B, C, D, E, F, G, H, Lists}
use Rattle.model.specs.Rules.{mem}
use Rattle.model.specs.Records.{Line, Record, mark_word, line_words, words, carries, marked, step_of, answer_of, mark_of, line_of, record_of, letter}

abbrev pub Absent : ℕ → List Line → Type 0
Absent p [] = Unit {0}
Absent p (l ∷ ls) = (p ≡ l.number → ⊥) × Absent p ls

abbrev pub Distinct : List Line → Type 0
Distinct [] = Unit {0}
Distinct (l ∷ ls) = Absent l.number ls × Distinct ls

abbrev pub Numbers : List Line → List ℕ
Numbers ls = map (λ (s : Step). s.number) (map step_of ls)

pub absent : (p : ℕ) (ls : List Line) → ((j : ℕ) → j < length (map step_of ls) → p ≡ get_or (Numbers ls) j 0 → ⊥) → Absent p ls
absent p [] h = tt
absent p (l ∷ ls) h = (h zero (omega arith), absent p ls (λ j b. h (suc j) (omega arith)))

pub distinct : (ls : List Line) → ((i j : ℕ) → i < j → j < length (map step_of ls) → get_or (Numbers ls) i 0 ≡ get_or (Numbers ls) j 0 → ⊥) → Distinct ls
distinct [] h = tt
distinct (l ∷ ls) h = (absent l.number ls (λ j b. h zero (suc j) (omega arith) (omega arith)), distinct ls (λ i j a b. h (suc i) (suc j) (omega arith) (omega arith)))

T_true : (b : Bool) → T b → b ≡ true
T_true true t = refl
T_true false t = absurd t

not-T-false : (b : Bool) → (T b → ⊥) → b ≡ false
not-T-false true t = absurd (t tt)
not-T-false false t = refl

pub eqb-false : (p q : ℕ) → (p ≡ q → ⊥) → eqb p q ≡ false
eqb-false p q h = not-T-false (eqb p q) (λ t. h (eqb→eq p q t))

pub eqb-true : (p : ℕ) → eqb p p ≡ true
eqb-true p = T_true (eqb p p) (eqb_refl p)

-- a passage that no line has is on no list
pub absent_mem : (p : ℕ) (z : Letter) (ls : List Line) → Absent p ls → mem p (marked z ls) ≡ false
absent_mem p z [] h = refl
absent_mem p z (l ∷ ls) h = go (absent_mem p z ls h.1) (carries z l.mark)
  where
    go : mem p (marked z ls) ≡ false → (b : Bool) → mem p (cond b (l.number ∷ marked z ls) (marked z ls)) ≡ false
    go rest true = rw (eqb-false p l.number h.0) rest
    go rest false = rest

pub here_mem : (l : Line) (z : Letter) (ls : List Line) → Absent l.number ls → mem l.number (marked z (l ∷ ls)) ≡ carries z l.mark
here_mem l z ls h = go (carries z l.mark)
  where
    go : (b : Bool) → mem l.number (cond b (l.number ∷ marked z ls) (marked z ls)) ≡ b
    go true = rw (eqb-true l.number)
    go false = absent_mem l.number z ls h

pub later_mem : (p : ℕ) (l : Line) (z : Letter) (ls : List Line) → (p ≡ l.number → ⊥) → mem p (marked z (l ∷ ls)) ≡ mem p (marked z ls)
later_mem p l z ls h = go (carries z l.mark)
  where
    go : (b : Bool) → mem p (cond b (l.number ∷ marked z ls) (marked z ls)) ≡ mem p (marked z ls)
    go true = rw (eqb-false p l.number h)
    go false = refl

-- each line of ls has its mark from the lists m
abbrev pub Right : Lists → List Line → Type 0
Right m [] = Unit {0}
Right m (l ∷ ls) = ((z : Letter) → mem l.number (m z) ≡ carries z l.mark) × Right m ls

pub right_more : (l : Line) (ls ks : List Line) → Absent l.number ks → Right (λ z. marked z ls) ks → Right (λ z. marked z (l ∷ ls)) ks
right_more l ls [] a h = tt
right_more l ls (k ∷ ks) a h = ((λ z. later_mem k.number l z ls (λ e. a.0 (sym e)) ∙ h.0 z), right_more l ls ks a.1 h.1)

pub right : (ls : List Line) → Distinct ls → Right (λ z. marked z ls) ls
right [] d = tt
right (l ∷ ls) d = ((λ z. here_mem l z ls d.0), right_more l ls ls d.0 (right ls d.1))

pick : Bool → Bool → Bool → Bool → Bool → Bool → Bool → Bool → Option Letter
pick a b c d e f g h = cond a (Some A) (cond b (Some B) (cond c (Some C) (cond d (Some D) (cond e (Some E) (cond f (Some F) (cond g (Some G) (cond h (Some H) None)))))))

picks : (k : Option Letter) → pick (carries A k) (carries B k) (carries C k) (carries D k) (carries E k) (carries F k) (carries G k) (carries H k) ≡ k
unfolding pick
picks None = refl
picks (Some A) = refl
picks (Some B) = refl
picks (Some C) = refl
picks (Some D) = refl
picks (Some E) = refl
picks (Some F) = refl
picks (Some G) = refl
picks (Some H) = refl

pub mark_right : (m : Lists) (l : Line) → ((z : Letter) → mem l.number (m z) ≡ carries z l.mark) → mark_of m l.number ≡ l.mark
unfolding pick
mark_right m l h = step ∙ picks l.mark
  where
    step : pick (mem l.number (m A)) (mem l.number (m B)) (mem l.number (m C)) (mem l.number (m D)) (mem l.number (m E)) (mem l.number (m F)) (mem l.number (m G)) (mem l.number (m H)) ≡ pick (carries A l.mark) (carries B l.mark) (carries C l.mark) (carries D l.mark) (carries E l.mark) (carries F l.mark) (carries G l.mark) (carries H l.mark)
    step = λ i. pick (h A i) (h B i) (h C i) (h D i) (h E i) (h F i) (h G i) (h H i)

pub lines_right : (m : Lists) (ls : List Line) → Right m ls → map (line_of m) (map step_of ls) ≡ ls
lines_right m [] r = refl
lines_right m (l ∷ ls) r = λ i. record { number = l.number; reached = l.reached; mark = mark_right m l r.0 i } ∷ lines_right m ls r.1 i

-- marks determine lists and lists marks
pub record_of_answer_of : (k : Record) → Distinct k.lines → record_of (answer_of k) ≡ k
record_of_answer_of k d = λ i. record { start = k.start; lines = lines_right (λ z. marked z k.lines) k.lines (right k.lines d) i }

-- words determine the record
pub letter_again : (m : Option Letter) → letter (mark_word m) ≡ m
letter_again None = refl
letter_again (Some A) = refl
letter_again (Some B) = refl
letter_again (Some C) = refl
letter_again (Some D) = refl
letter_again (Some E) = refl
letter_again (Some F) = refl
letter_again (Some G) = refl
letter_again (Some H) = refl

pub mark_word_inj : (m n : Option Letter) → mark_word m ≡ mark_word n → m ≡ n
mark_word_inj m n e = sym (letter_again m) ∙ ap letter e ∙ letter_again n

pub line_words_inj : (xs ys : List Line) → line_words xs ≡ line_words ys → xs ≡ ys
line_words_inj [] [] e = refl
line_words_inj [] (y ∷ ys) e = let z : ◌≡◌ {A = ℕ} 0 1 = cc in absurd (omega arith)
line_words_inj (x ∷ xs) [] e = let z : ◌≡◌ {A = ℕ} 0 1 = cc in absurd (omega arith)
line_words_inj (x ∷ xs) (y ∷ ys) e =
    let a : x.number ≡ y.number = cc in
    let b : x.reached ≡ y.reached = cc in
    let c : mark_word x.mark ≡ mark_word y.mark = cc in
    let d : line_words xs ≡ line_words ys = cc in
    let f : xs ≡ ys = line_words_inj xs ys d in
    λ i. record { number = a i; reached = b i; mark = mark_word_inj x.mark y.mark c i } ∷ f i

pub words_inj : (k l : Record) → words k ≡ words l → k ≡ l
words_inj k l e =
    let a : k.start ≡ l.start = cc in
    let d : line_words k.lines ≡ line_words l.lines = cc in
    let f : k.lines ≡ l.lines = line_words_inj k.lines l.lines d in
    λ i. record { start = a i; lines = f i }

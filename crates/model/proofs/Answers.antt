-- A record determines its answer, and the order is total on the answers of one enquiry.
use Rattle.std.proofs.Common.{◌≡◌, ℕ, ◌<◌, ◌⊎◌, List, [], ◌∷◌, map, sym, refl, ap, ◌∙◌, subst, inl, inr, arith}
use Rattle.model.specs.Plans.{PlanMeaning}
use Rattle.model.specs.Routes.{Step, Route, Along, IsPath}
use Rattle.model.specs.Patterns.{Lists, Tree, Output}
use Rattle.model.specs.Rules.{Plain, Trail}
use Rattle.model.specs.Records.{Answer, Line, Record, answer_of, record_of, Before, Earlier, Level, Lower, line_of, rec_words}
use Rattle.model.specs.Questions.{EnquiryMeaning, Lawful, Question, Candidate}
use Rattle.model.proofs.Marks.{Marking, marking, is_path, along_zone, along_number, along_reaches, reaches_one, Reaches}
use Rattle.model.proofs.Distinct.{Distinct, distinct, record_of_answer_of, words_inj, mark_word_inj}
use Rattle.model.proofs.Order.{compare_lines}

pub plain : (pl : PlanMeaning) (r : Route) → IsPath pl r → Plain r
plain pl r h = record { start_low = low _ h.0; reached_low = λ i b. low _ (along_zone pl r.start r.steps h.0 h.1 i b); number_low = λ i b. along_number pl r.start r.steps h.1 i b; alike = λ i j a b e. reaches_one pl _ _ _ _ e (along_reaches pl r.start r.steps h.1 i a) (along_reaches pl r.start r.steps h.1 j b) }
  where
    low : (x : ℕ) → x < pl.zones → x < 64
    low x b = omega (arith, pl.few_zones)

pub is_trail : (n : EnquiryMeaning) → Lawful n → (q : Question) (a : Answer) → Candidate n q a → Trail a.route
is_trail n k q a c = k.no_passage_twice a.route (plain n.plan a.route (is_path c.output)) c.allowed

-- the record of an output that is a trail determines it
pub output_again : (pl : PlanMeaning) (t : Tree) (a : Answer) → Output pl t a.route a.lists → Trail a.route → answer_of (record_of a) ≡ a
output_again pl t a o tr = ap (λ (b : Answer). answer_of (record_of b)) (sym same) ∙ ap answer_of (record_of_answer_of k apart) ∙ same
  where
    m : Marking a.route a.lists
    m = marking o

    k : Record
    k = record { start = a.route.start; lines = m.lines }

    same : answer_of k ≡ a
    same = λ i. record { route = record { start = a.route.start; steps = m.steps_are i }; lists = λ z. m.lists_are z i }

    P : List Step → Type 0
    P ss = Trail (record { start = a.route.start; steps = ss })

    apart : Distinct k.lines
    apart = distinct m.lines (subst P (sym m.steps_are) tr)

pub determined : (n : EnquiryMeaning) → Lawful n → (q : Question) (a : Answer) → Candidate n q a → answer_of (record_of a) ≡ a
determined n kept q a c = output_again n.plan n.pattern a c.output (is_trail n kept q a c)

pub words_determine : (n m : EnquiryMeaning) → Lawful n → Lawful m → (q u : Question) (a b : Answer) → Candidate n q a → Candidate m u b → rec_words a ≡ rec_words b → a ≡ b
words_determine n m kn km q u a b c d e = sym (determined n kn q a c) ∙ ap answer_of (words_inj (record_of a) (record_of b) e) ∙ determined m km u b d

-- the order is total on the answers of one enquiry
abbrev Led : PlanMeaning → List Line → Type 0
Led pl [] = Unit {0}
Led pl (l ∷ ls) = Reaches pl l.number l.reached × Led pl ls

led : (pl : PlanMeaning) (m : Lists) (v : ℕ) (ss : List Step) → Along pl v ss → Led pl (map (line_of m) ss)
led pl m v [] a = tt
led pl m v (s ∷ ss) a = (record { passing = _; is = a.0.1; to = refl }, led pl m s.reached ss a.1)

ordered : (pl : PlanMeaning) (xs ys : List Line) → Led pl xs → Led pl ys → Earlier xs ys ⊎ ((xs ≡ ys) ⊎ Earlier ys xs)
ordered pl [] [] a b = inr (inl refl)
ordered pl [] (y ∷ ys) a b = inl tt
ordered pl (x ∷ xs) [] a b = inr (inr tt)
ordered pl (x ∷ xs) (y ∷ ys) a b = go (compare_lines x y) (ordered pl xs ys a.1 b.1)
  where
    go : Lower x y ⊎ (Level x y ⊎ Lower y x) → Earlier xs ys ⊎ ((xs ≡ ys) ⊎ Earlier ys xs) → Earlier (x ∷ xs) (y ∷ ys) ⊎ (((x ∷ xs) ≡ (y ∷ ys)) ⊎ Earlier (y ∷ ys) (x ∷ xs))
    go (inl h) r = inl (inl h)
    go (inr (inr h)) r = inr (inr (inl h))
    go (inr (inl h)) (inl r) = inl (inr (h, r))
    go (inr (inl h)) (inr (inr r)) = inr (inr (inr ((sym h.0, sym h.1), r)))
    go (inr (inl h)) (inr (inl r)) =
        let z : x.reached ≡ y.reached = reaches_one pl x.number y.number x.reached y.reached h.0 a.0 b.0 in
        inr (inl (λ i. record { number = h.0 i; reached = z i; mark = mark_word_inj x.mark y.mark h.1 i } ∷ r i))

pub total : (n : EnquiryMeaning) → Lawful n → (q : Question) (a b : Answer) → Candidate n q a → Candidate n q b → Before a b ⊎ ((a ≡ b) ⊎ Before b a)
total n kept q a b c d = go (ordered n.plan (record_of a).lines (record_of b).lines (led n.plan a.lists a.route.start a.route.steps (is_path c.output).1) (led n.plan b.lists b.route.start b.route.steps (is_path d.output).1))
  where
    go : Earlier (record_of a).lines (record_of b).lines ⊎ (((record_of a).lines ≡ (record_of b).lines) ⊎ Earlier (record_of b).lines (record_of a).lines) → Before a b ⊎ ((a ≡ b) ⊎ Before b a)
    go (inl h) = inl h
    go (inr (inr h)) = inr (inr h)
    go (inr (inl h)) =
        let s : a.route.start ≡ b.route.start = c.starts ∙ sym d.starts in
        let e : record_of a ≡ record_of b = λ i. record { start = s i; lines = h i } in
        inr (inl (sym (determined n kept q a c) ∙ ap answer_of e ∙ determined n kept q b d))

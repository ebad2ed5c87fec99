-- From what the search delivers to what next is to deliver.
use Rattle.std.proofs.Common.{◌≡◌, ℕ, suc, ◌+◌, ◌*◌, ◌<◌, ◌≤◌, Bool, true, false, List, [], ◌∷◌, ◌++◌, map, length, Some, sym, refl, ap, ◌∙◌, subst, ap₂, inl, inr, ⊎_elim, arith}
use Rattle.model.specs.Routes.{len}
use Rattle.model.specs.Records.{Line, Record, Answer, record_of, step_of, mark_word, line_words, words, Earlier, Before}
use Rattle.model.specs.Questions.{EnquiryMeaning, Question, Candidate, Chosen, IsAnswer, Lawful}
use Rattle.model.specs.Records.{rec_words}
use Rattle.model.specs.Calls.{After, First, Left, Holds}
use Rattle.model.proofs.Answers.{is_trail, total}
use Rattle.model.proofs.Distinct.{distinct, record_of_answer_of}
use Rattle.automaton.specs.Tables.{Recognises}
use Rattle.automaton.specs.declared.Automaton.{Automaton}
use Rattle.route.specs.Tracks.{Track, Taken}
use Rattle.search.specs.Spaces as t
use Rattle.search.specs.Hunts.{space_of}
use Rattle.search.specs.Listings.{Standing, StandingOn, route_at, code_of, codes_on, codes_of, ToCome}
use Rattle.model.specs.declared.Choice.{Choice}
use Rattle.model.specs.declared.Choice.TheVariants.{All, Shortest}
use Rattle.search.proofs.Follow.{answer_to}
use Rattle.bridge.specs.Lines.{told, told_record, told_line, told_lines, line_codes}
use Rattle.search.specs.Hunts.{space_of}
use Rattle.model.specs.Records.{letter}
use Rattle.bridge.specs.Statement.{Agree}
use Rattle.bridge.proofs.Agreed.{answers_agree, lined}
use Rattle.bridge.proofs.Walk.{admitted, word_letter}
use Rattle.bridge.specs.Ahead.{From}
use Rattle.enquiry.specs.Records.{words_on, record_on}
use Rattle.enquiry.specs.Promises.{standing_by, Capped}

-- the order of records is the order of codes
to_codes : (xs ys : List Line) → Earlier xs ys → t.Earlier (line_codes xs) (line_codes ys)
to_codes [] [] h = h
to_codes [] (y ∷ ys) h = tt
to_codes (x ∷ xs) [] h = h
to_codes (x ∷ xs) (y ∷ ys) (inl h) = inl h
to_codes (x ∷ xs) (y ∷ ys) (inr h) = inr ((λ i. record { passage = h.0.0 i; mark = h.0.1 i }), to_codes xs ys h.1)

from_codes : (xs ys : List Line) → t.Earlier (line_codes xs) (line_codes ys) → Earlier xs ys
from_codes [] [] h = h
from_codes [] (y ∷ ys) h = tt
from_codes (x ∷ xs) [] h = h
from_codes (x ∷ xs) (y ∷ ys) (inl h) = inl h
from_codes (x ∷ xs) (y ∷ ys) (inr h) = inr ((ap (λ (c : t.Code). c.passage) h.0, ap (λ (c : t.Code). c.mark) h.0), from_codes xs ys h.1)

pub length_on : (xs : List Taken) (ls : List Line) → length (told_lines xs ls) ≡ length xs + length ls
length_on [] ls = omega arith
length_on (x ∷ xs) ls = length_on xs (told_line x ∷ ls) ∙ omega arith

length-map : (ls : List Line) → length (map step_of ls) ≡ length ls
length-map [] = refl
length-map (x ∷ ls) = ap suc (length-map ls)

pub length_words : (ls : List Line) → length (line_words ls) ≡ 3 * length ls
length_words [] = refl
length_words (x ∷ ls) = omega (arith, length_words ls)

module _ (n : EnquiryMeaning) (kept : Lawful n) (a : Automaton) (rec : Recognises a n.pattern) (z target : ℕ) (ch : Choice) (most : ℕ) (low : z < n.plan.zones) where
  abbrev pub Q : Question
  Q = record { start = z; target = target; choice = ch }

  abbrev pub T : t.Space
  T = space_of n.plan n.rule a target most

  agree : Agree n a Q most
  agree = answers_agree n kept a rec Q low most

  step_marked : (x : Taken) (xs : List Taken) → T.reach (route_at z xs) (code_of x) ≡ Some (x.zone, x.mask) → (mark_word (letter x.mark) ≡ x.mark) × (length xs < most)
  unfolding space_of
  step_marked x xs e =
      let p = admitted n.rule a most (route_at z xs) (code_of x) (n.plan.passage x.passage) (x.zone, x.mask) e in
      (word_letter x.mark p.marked, p.room)

  pub codes_are : (xs : List Taken) (ls : List Line) → StandingOn T z xs → line_codes (told_lines xs ls) ≡ codes_on xs (line_codes ls)
  codes_are [] ls s = refl
  codes_are (x ∷ xs) ls s = codes_are xs (told_line x ∷ ls) s.0 ∙ ap (λ (k : ℕ). codes_on xs (record { passage = x.passage; mark = k } ∷ line_codes ls)) (step_marked x xs s.1).0

  pub words_are : (xs : List Taken) (ls : List Line) (v : List ℕ) → StandingOn T z xs → words_on xs (line_words ls ++ v) ≡ line_words (told_lines xs ls) ++ v
  words_are [] ls v s = refl
  words_are (x ∷ xs) ls v s = ap (λ (k : ℕ). words_on xs (x.passage ∷ (x.zone ∷ (k ∷ (line_words ls ++ v))))) (sym (step_marked x xs s.1).0) ∙ words_are xs (told_line x ∷ ls) v s.0

  not_long : (xs : List Taken) → StandingOn T z xs → length xs ≤ most
  not_long [] s = omega arith
  not_long (x ∷ xs) s = omega (arith, (step_marked x xs s.1).1)

  len_told : (xs : List Taken) → len (told (route_at z xs)).route ≡ length xs
  len_told xs = length-map (told_lines xs []) ∙ length_on xs [] ∙ omega arith

  pub candidate : (xs : List Taken) → StandingOn T z xs → T.final (route_at z xs) ≡ true → Candidate n Q (told (route_at z xs))
  candidate xs s f = agree.sound (route_at z xs) refl s f

  pub recorded : (xs : List Taken) → StandingOn T z xs → T.final (route_at z xs) ≡ true → record_of (told (route_at z xs)) ≡ told_record (route_at z xs)
  recorded xs s f = record_of_answer_of (told_record (route_at z xs)) (distinct (told_lines xs []) (is_trail n kept Q (told (route_at z xs)) (candidate xs s f)))

  chosen : (c : Choice) (b : Answer) → Capped n Q c most → len b.route ≤ most → Chosen n Q (c) b
  chosen All b cap l = tt
  chosen Shortest b cap l = λ e k. omega (arith, cap.0 e k)

  pub within_cap : (c : Choice) (b : Answer) → Capped n Q c most → Candidate n Q b → Chosen n Q (c) b → len b.route ≤ most
  within_cap All b cap k h = omega (arith, agree.short b k)
  within_cap Shortest b cap k h = let (e, j, l) = cap.1 b k in omega (arith, h e j)

  pub search_answer : (b : Answer) → Candidate n Q b → len b.route ≤ most → t.Goal T (route_at z []) (line_codes (record_of b).lines)
  search_answer b k l = agree.complete b k l

  -- the allowed output that a standing route writes down, with its length
  pub kept_len : (xs : List Taken) → StandingOn T z xs → len (told (route_at z xs)).route ≤ most
  kept_len xs s = omega (arith, len_told xs, not_long xs s)

  module _ (cap : Capped n Q ch most) where
    pub is_answer : (xs : List Taken) → StandingOn T z xs → T.final (route_at z xs) ≡ true → IsAnswer n Q (told (route_at z xs))
    is_answer xs s f = (candidate xs s f, chosen ch (told (route_at z xs)) cap (kept_len xs s))

    search_all : (b : Answer) → IsAnswer n Q b → t.Goal T (route_at z []) (line_codes (record_of b).lines)
    search_all b k = agree.complete b k.0 (within_cap ch b cap k.0 k.1)

    lines_told : (xs : List Taken) → StandingOn T z xs → T.final (route_at z xs) ≡ true → line_codes (record_of (told (route_at z xs))).lines ≡ codes_of (route_at z xs)
    lines_told xs s f = ap (λ (k : Record). line_codes k.lines) (recorded xs s f) ∙ codes_are xs [] s

    -- before, in records and in codes
    before_codes : (xs : List Taken) → StandingOn T z xs → T.final (route_at z xs) ≡ true → (b : Answer) → Before (told (route_at z xs)) b → t.Earlier (codes_of (route_at z xs)) (line_codes (record_of b).lines)
    before_codes xs s f b h = subst (λ (u : List t.Code). t.Earlier u (line_codes (record_of b).lines)) (lines_told xs s f) (to_codes (record_of (told (route_at z xs))).lines (record_of b).lines h)

    codes_before : (xs : List Taken) → StandingOn T z xs → T.final (route_at z xs) ≡ true → (b : Answer) → t.Earlier (codes_of (route_at z xs)) (line_codes (record_of b).lines) → Before (told (route_at z xs)) b
    codes_before xs s f b h = from_codes (record_of (told (route_at z xs))).lines (record_of b).lines (subst (λ (u : List t.Code). t.Earlier u (line_codes (record_of b).lines)) (sym (lines_told xs s f)) h)

    come : (begun : Bool) (xs : List Taken) → StandingOn T z xs → (begun ≡ true → T.final (route_at z xs) ≡ true) → (b : Answer) → After (standing_by begun (route_at z xs)) b → ToCome begun (codes_of (route_at z xs)) (line_codes (record_of b).lines)
    come true xs s f b h = before_codes xs s (f refl) b h
    come false xs s f b h = tt

    after : (begun : Bool) (xs : List Taken) → StandingOn T z xs → (begun ≡ true → T.final (route_at z xs) ≡ true) → (b : Answer) → ToCome begun (codes_of (route_at z xs)) (line_codes (record_of b).lines) → After (standing_by begun (route_at z xs)) b
    after true xs s f b h = codes_before xs s (f refl) b h
    after false xs s f b h = tt

    pub final_of : (e : Track) → e.start ≡ z → Standing T e → t.Goal T (route_at z []) (codes_of e) → T.final (route_at z e.steps) ≡ true
    final_of e p s h = answer_to T z e.steps [] (subst (λ (y : ℕ). StandingOn T y e.steps) p s) h

    pub none_left : (begun : Bool) (xs : List Taken) → StandingOn T z xs → (begun ≡ true → T.final (route_at z xs) ≡ true) →
        ((w : List t.Code) → t.Goal T (route_at z []) w → ToCome begun (codes_of (route_at z xs)) w → ⊥) → (b : Answer) → Left n Q (standing_by begun (route_at z xs)) b → ⊥
    none_left begun xs s f h b l = h (line_codes (record_of b).lines) (search_all b l.0) (come begun xs s f b l.1)

    pub first_one : (begun : Bool) (xs : List Taken) → StandingOn T z xs → (begun ≡ true → T.final (route_at z xs) ≡ true) →
        (ys : List Taken) → StandingOn T z ys → T.final (route_at z ys) ≡ true → ToCome begun (codes_of (route_at z xs)) (codes_of (route_at z ys)) →
        ((w : List t.Code) → t.Goal T (route_at z []) w → ToCome begun (codes_of (route_at z xs)) w → t.Earlier w (codes_of (route_at z ys)) → ⊥) →
        First (Left n Q (standing_by begun (route_at z xs))) (told (route_at z ys))
    first_one begun xs s f ys st g later least =
        let A = told (route_at z ys) in
        let c = lines_told ys st g in
        let k : IsAnswer n Q A = is_answer ys st g in (
          (k, after begun xs s f A (subst (ToCome begun (codes_of (route_at z xs))) (sym c) later)),
          λ b l. ⊎_elim inr (⊎_elim (λ e. inl (sym e)) (λ h. absurd (least (line_codes (record_of b).lines) (search_all b l.0) (come begun xs s f b l.1) (subst (t.Earlier (line_codes (record_of b).lines)) c (to_codes (record_of b).lines (record_of A).lines h))))) (total n kept Q A b k.0 l.0.0),
        )

    -- the words that are written are the record of the answer
    pub record_words : (ys : List Taken) (v : List ℕ) → StandingOn T z ys → T.final (route_at z ys) ≡ true → record_on (route_at z ys) v ≡ rec_words (told (route_at z ys)) ++ v
    record_words ys v s g =
        let e : length ys ≡ length (told_lines ys []) = omega (arith, length_on ys []) in
        ap₂ (λ (k : ℕ) (w : List ℕ). k ∷ (z ∷ w)) e (words_are ys [] v s) ∙ ap (λ (k : Record). words k ++ v) (sym (recorded ys s g))

    pub record_length : (ys : List Taken) → StandingOn T z ys → T.final (route_at z ys) ≡ true → 2 + 3 * length ys ≡ length (rec_words (told (route_at z ys)))
    record_length ys s g = let e = ap (λ (k : Record). length (words k)) (recorded ys s g) in omega (arith, e, length_words (told_lines ys []), length_on ys [])

    -- a walk along the words of an answer, and a walk that comes to nothing
    pub walked_holds : (ws rest : List ℕ) (ys : List Taken) → StandingOn T z ys → T.final (route_at z ys) ≡ true → ws ≡ record_on (route_at z ys) rest → Holds ws (told (route_at z ys))
    walked_holds ws rest ys s g e = (rest, e ∙ record_words ys rest s g)

    pub not_answer : (ws : List ℕ) → ((ls : List Line) (rest : List ℕ) → From n.plan n.rule a target (route_at z []) ls → length ls ≤ most → ws ≡ words (record { start = z; lines = ls }) ++ rest → ⊥) →
        (b : Answer) → Holds ws b → IsAnswer n Q b → ⊥
    not_answer ws nay b h k =
        let l = lined n kept a rec Q low most b k.0 in
        let w = within_cap ch b cap k.0 k.1 in
        let r : record_of b ≡ record { start = z; lines = l.lines } = λ i. record { start = k.0.starts i; lines = l.recorded i } in
        nay l.lines h.0 l.from (omega (arith, l.long)) (h.1 ∙ ap (λ (x : Record). words x ++ h.0) r)

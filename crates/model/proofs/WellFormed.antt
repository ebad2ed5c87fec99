-- The record of an answer is short and well formed.
use Rattle.std.proofs.Common.{◌≡◌, ℕ, zero, suc, ◌+◌, ◌*◌, ◌<◌, ◌≤◌, List, [], ◌∷◌, ◌++◌, length, get_or, Some, None, Option, sym, subst, arith, lit≤, length-append}
use lib.ListN.{length-map}
use Rattle.model.specs.Routes.{len}
use Rattle.model.specs.Patterns.{Letter, A, B, C, D, E, F, G, H}
use Rattle.model.specs.Records.{Answer, Line, mark_word, line_words, record_of, line_of, rec_words}
use Rattle.model.specs.Questions.{EnquiryMeaning, Lawful, Question, Candidate}
use Rattle.model.specs.Calls.{WellFormed}
use Rattle.model.proofs.Marks.{is_path}
use Rattle.model.proofs.Answers.{plain, is_trail}
use Rattle.model.proofs.RuleLaws.{trail_short}
use Rattle.model.proofs.Effects.{length_line_words}
use Rattle.model.proofs.Total.{not_malformed}

mark_low : (m : Option Letter) → mark_word m ≤ 8
mark_low None = lit≤ tt
mark_low (Some A) = lit≤ tt
mark_low (Some B) = lit≤ tt
mark_low (Some C) = lit≤ tt
mark_low (Some D) = lit≤ tt
mark_low (Some E) = lit≤ tt
mark_low (Some F) = lit≤ tt
mark_low (Some G) = lit≤ tt
mark_low (Some H) = lit≤ tt

-- the marks stand at every third letter-word
marks_low : (ls : List Line) (rest : List ℕ) (j : ℕ) → j < length ls → get_or (line_words ls ++ rest) (2 + 3 * j) 0 ≤ 8
marks_low [] rest j h = absurd (omega arith)
marks_low (l ∷ ls) rest zero h = mark_low l.mark
marks_low (l ∷ ls) rest (suc j) h =
    let e : 2 + 3 * suc j ≡ suc (suc (suc (2 + 3 * j))) = omega arith in
    let P : ℕ → Type 0 = λ i. get_or (line_words (l ∷ ls) ++ rest) i 0 ≤ 8 in
    subst P (sym e) (marks_low ls rest j (omega arith))

-- two words, and three for each passage
pub record_length : (a : Answer) → length (rec_words a) ≡ 2 + 3 * len a.route
record_length a =
    let e = length-map a.route.steps (line_of a.lists) in
    let d = length_line_words (record_of a).lines in
    omega arith

pub short_record : (n : EnquiryMeaning) → Lawful n → (q : Question) (a : Answer) → Candidate n q a → length (rec_words a) ≤ 770
short_record n k q a c =
    let h = trail_short a.route (plain n.plan a.route (is_path c.output)) (is_trail n k q a c) in
    let e = record_length a in
    omega arith

-- the record of an answer, with words behind it, is well formed
pub answer_well_formed : (n : EnquiryMeaning) → Lawful n → (q : Question) (a : Answer) → Candidate n q a → (rest : List ℕ) → WellFormed (rec_words a ++ rest)
answer_well_formed n k q a c rest =
    let ls : List Line = (record_of a).lines in
    let h : len a.route ≤ 256 = trail_short a.route (plain n.plan a.route (is_path c.output)) (is_trail n k q a c) in
    let e : length ls ≡ len a.route = length-map a.route.steps (line_of a.lists) in
    let d : length (line_words ls) ≡ 3 * length ls = length_line_words ls in
    let g : length (line_words ls ++ rest) ≡ length (line_words ls) + length rest = length-append (line_words ls) rest in
    not_malformed (rec_words a ++ rest) (omega arith) (omega arith) (omega arith) (λ j b.
    let i : 4 + 3 * j ≡ suc (suc (2 + 3 * j)) = omega arith in
    let P : ℕ → Type 0 = λ x. get_or (rec_words a ++ rest) x 0 ≤ 8 in
    subst P (sym i) (marks_low ls rest j b))

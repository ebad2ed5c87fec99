-- What records and their order promise.
use Rattle.std.specs.Prelude.{◌≡◌, ℕ, ◌+◌, ◌*◌, ◌<◌, ◌≤◌, ◌⊎◌, List, ◌++◌, length, Option}
use Rattle.model.specs.Plans.{PlanMeaning}
use Rattle.model.specs.Routes.{len}
use Rattle.model.specs.Patterns.{Letter, Tree, Output}
use Rattle.model.specs.Rules.{Trail}
use Rattle.model.specs.Records.{Answer, Record, mark_word, letter, answer_of, record_of, rec_words, Before}
use Rattle.model.specs.Questions.{EnquiryMeaning, Lawful, Question, IsAnswer}
use Rattle.model.specs.Calls.{WellFormed}

-- Marks and lists determine each other; a record determines its answer; the order is strict, and total on the answers of
-- one question; the record of an answer is short and well formed.
pub record RecordLaws : Type 0 where
  -- a mark and its number determine each other
  pub mark_again : (m : Option Letter) → letter (mark_word m) ≡ m
  pub number_again : (k : ℕ) → k < 9 → mark_word (letter k) ≡ k
  -- where no passage repeats, the lists that a record writes down have its marks
  pub marks_again : (k : Record) → Trail (answer_of k).route → record_of (answer_of k) ≡ k
  -- and the marks of an output's record write down its lists
  pub lists_again : (pl : PlanMeaning) (t : Tree) (a : Answer) → Output pl t a.route a.lists → Trail a.route → answer_of (record_of a) ≡ a
  -- answers with the same words are the same, be they of one enquiry or of two
  pub words_determine : (n m : EnquiryMeaning) → Lawful n → Lawful m → (q u : Question) (a b : Answer) → IsAnswer n q a → IsAnswer m u b → rec_words a ≡ rec_words b → a ≡ b
  -- the order is strict
  pub irreflexive : (a : Answer) → Before a a → ⊥
  pub transitive : (a b c : Answer) → Before a b → Before b c → Before a c
  -- and total on the answers of one question
  pub total : (n : EnquiryMeaning) → Lawful n → (q : Question) (a b : Answer) → IsAnswer n q a → IsAnswer n q b → Before a b ⊎ ((a ≡ b) ⊎ Before b a)
  -- two words, and three for each passage; for an answer at most 770
  pub counted : (a : Answer) → length (rec_words a) ≡ 2 + 3 * len a.route
  pub short : (n : EnquiryMeaning) → Lawful n → (q : Question) (a : Answer) → IsAnswer n q a → length (rec_words a) ≤ 770
  -- the record of an answer is well formed, whatever words stand behind it
  pub well_formed : (n : EnquiryMeaning) → Lawful n → (q : Question) (a : Answer) → IsAnswer n q a → (rest : List ℕ) → WellFormed (rec_words a ++ rest)

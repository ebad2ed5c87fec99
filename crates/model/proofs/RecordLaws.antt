-- What records and their order promise.
use Rattle.std.proofs.Common.{◌≡◌, ℕ, zero, suc, ◌<◌, refl, arith}
use Rattle.model.specs.Records.{mark_word, letter}
use Rattle.model.specs.RecordLaws.{RecordLaws}
use Rattle.model.proofs.Distinct.{letter_again, distinct, record_of_answer_of}
use Rattle.model.proofs.Order.{before_irrefl, before_trans}
use Rattle.model.proofs.Answers.{output_again, words_determine, total}
use Rattle.model.proofs.WellFormed.{record_length, short_record, answer_well_formed}

number_again : (k : ℕ) → k < 9 → mark_word (letter k) ≡ k
number_again zero h = refl
number_again (suc zero) h = refl
number_again (suc (suc zero)) h = refl
number_again (suc (suc (suc zero))) h = refl
number_again (suc (suc (suc (suc zero)))) h = refl
number_again (suc (suc (suc (suc (suc zero))))) h = refl
number_again (suc (suc (suc (suc (suc (suc zero)))))) h = refl
number_again (suc (suc (suc (suc (suc (suc (suc zero))))))) h = refl
number_again (suc (suc (suc (suc (suc (suc (suc (suc zero)))))))) h = refl
number_again (suc (suc (suc (suc (suc (suc (suc (suc (suc k))))))))) h = absurd (omega arith)

pub record_laws : RecordLaws
record_laws = record {
  mark_again = letter_again;
  number_again = number_again;
  marks_again = λ k t. record_of_answer_of k (distinct k.lines t);
  lists_again = output_again;
  words_determine = λ n m kn km q u a b i j. words_determine n m kn km q u a b i.0 j.0;
  irreflexive = before_irrefl;
  transitive = before_trans;
  total = λ n k q a b i j. total n k q a b i.0 j.0;
  counted = record_length;
  short = λ n k q a i. short_record n k q a i.0;
  well_formed = λ n k q a i. answer_well_formed n k q a i.0;
}

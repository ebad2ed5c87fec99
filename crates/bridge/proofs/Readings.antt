-- The outputs of a pattern are what is written down by the records that it reads.
use Rattle.std.proofs.Common.{◌≡◌, List, sym, ap, ◌∙◌, subst}
use Rattle.model.specs.Plans.{PlanMeaning}
use Rattle.model.specs.Routes.{Step, Route, IsPath}
use Rattle.model.specs.Patterns.{Lists, Tree, Output}
use Rattle.model.specs.Rules.{Trail}
use Rattle.model.specs.Records.{Record, Answer, answer_of, record_of}
use Rattle.model.proofs.Marks.{is_path}
use Rattle.model.proofs.Distinct.{Distinct, distinct, record_of_answer_of}
use Rattle.model.proofs.Words.{Spelt, word→output, output→word}
use Rattle.automaton.specs.Readings.{Reads}
use Rattle.bridge.specs.Lines.{word_of}
use Rattle.bridge.specs.Statement.{ReadOff, ReadingsAgree}
use Rattle.bridge.proofs.Spell.{reads_word, word_reads}

-- the record of the lines by which an output is given
module _ {pl : PlanMeaning} {t : Tree} {v : Route} {m : Lists} (s : Spelt pl t v m) where
  abbrev pub spelt_record : Record
  spelt_record = record { start = v.start; lines = s.lines }

  pub spelt_answer : answer_of spelt_record ≡ record { route = v; lists = m }
  spelt_answer = λ i. record { route = record { start = v.start; steps = s.steps_are i }; lists = λ z. s.lists_are z i }

  -- where no passage repeats it is the record of the output
  pub spelt_again : Trail v → record_of (record { route = v; lists = m }) ≡ spelt_record
  spelt_again tr =
      let P : List Step → Type 0 = λ ss. Trail (record { start = v.start; steps = ss }) in
      let apart : Distinct s.lines = distinct s.lines (subst P (sym s.steps_are) tr) in
      ap record_of (sym spelt_answer) ∙ record_of_answer_of spelt_record apart

module _ (pl : PlanMeaning) (t : Tree) where
  read_output : (k : Record) → IsPath pl (answer_of k).route → Reads t (word_of pl k.lines) → Output pl t (answer_of k).route (answer_of k).lists
  read_output k p h = word→output (reads_word pl t k.start k.lines p.0 p.1 h)

  read_off : (b : Answer) → Output pl t b.route b.lists → ReadOff pl t b
  read_off b o =
      let s = output→word o in
      let P : Answer → Type 0 = λ x. IsPath pl x.route in
      record { written = spelt_record s; writes = spelt_answer s; path = subst P (sym (spelt_answer s)) (is_path o); read = word_reads s.word }

  off_output : (b : Answer) → ReadOff pl t b → Output pl t b.route b.lists
  off_output b h = let P : Answer → Type 0 = λ x. Output pl t x.route x.lists in subst P h.writes (read_output h.written h.path h.read)

  output_read : (k : Record) → Trail (answer_of k).route → Output pl t (answer_of k).route (answer_of k).lists → Reads t (word_of pl k.lines)
  output_read k tr o =
      let s = output→word o in
      let e : spelt_record s ≡ k = sym (spelt_again s tr) ∙ record_of_answer_of k (distinct k.lines tr) in
      let P : Record → Type 0 = λ x. Reads t (word_of pl x.lines) in
      subst P e (word_reads s.word)

pub readings_agree_lem : ReadingsAgree
readings_agree_lem pl t = record { outputs = λ b. (read_off pl t b, off_output pl t b); records = λ k p tr. (read_output pl t k p, output_read pl t k tr) }

-- The candidates of a question are finitely many.
use Rattle.std.proofs.Common.{◌≡◌, ℕ, ◌<◌, ◌≤◌, List, [], ◌∷◌, map, sym, refl, subst, ⊎_elim, arith}
use mathlib.Core.List.{Memᴰ}
use lib.ListN.{length-map}
use Rattle.model.specs.Routes.{len}
use Rattle.model.specs.Patterns.{Tree}
use Rattle.model.specs.Records.{Answer, Line, answer_of, step_of}
use Rattle.model.specs.Questions.{EnquiryMeaning, Lawful, Question, Candidate}
use Rattle.model.proofs.Marks.{is_path}
use Rattle.model.proofs.Answers.{plain}
use Rattle.model.proofs.Words.{Word, output→word, word→output}
use Rattle.model.proofs.Explore.{explore, sound, complete, to_from, of_from}
use Rattle.model.proofs.Members.{map_mem, mem_map}

abbrev pub listed : EnquiryMeaning → Question → List (List Line)
listed n q = explore n.plan n.rule q.start q.target n.rule.greatest [] q.start (n.pattern ∷ [])

abbrev pub made : Question → List Line → Answer
made q ls = answer_of (record { start = q.start; lines = ls })

abbrev pub candidates : EnquiryMeaning → Question → List Answer
candidates n q = map (made q) (listed n q)

pub candidate_listed : (n : EnquiryMeaning) → Lawful n → (q : Question) (a : Answer) → Candidate n q a → Memᴰ a (candidates n q)
candidate_listed n k q a c =
    let w = output→word c.output in
    let same : a ≡ made q w.lines = λ i. record { route = record { start = c.starts i; steps = sym w.steps_are i }; lists = λ z. sym (w.lists_are z) i } in
    let C : Answer → Type 0 = λ x. Candidate n q x in
    let d : Candidate n q (made q w.lines) = subst C same c in
    let s : len (made q w.lines).route ≤ n.rule.greatest = k.no_longer (made q w.lines).route (plain n.plan (made q w.lines).route (is_path d.output)) d.allowed in
    let wd = let P : ℕ → Type 0 = λ v. Word n.plan n.pattern v w.lines in subst P c.starts w.word in
    let m : Memᴰ w.lines (listed n q) = complete n.plan n.rule q.start q.target n.rule.greatest [] q.start (n.pattern ∷ []) w.lines (record { pattern = n.pattern; among = mathlib.Core.List.Memᴰ.head refl; word = wd; ends = d.ends; allowed = to_from n.plan n.rule q.start q.target (map step_of w.lines) d.allowed; short = let e = length-map w.lines step_of in omega arith }) in
    let M : Answer → Type 0 = λ x. Memᴰ x (candidates n q) in
    subst M (sym same) (mem_map (made q) w.lines (listed n q) m)

pub listed_candidate : (n : EnquiryMeaning) (q : Question) → q.start < n.plan.zones → (a : Answer) → Memᴰ a (candidates n q) → Candidate n q a
listed_candidate n q h a m =
    let r = map_mem (made q) a (listed n q) m in
    let f = sound n.plan n.rule q.start q.target n.rule.greatest [] q.start (n.pattern ∷ []) r.0 h r.1 in
    let C : Answer → Type 0 = λ x. Candidate n q x in
    let e : f.pattern ≡ n.pattern = ⊎_elim (λ (z : f.pattern ≡ n.pattern). z) (λ (z : Memᴰ f.pattern []). elim z [ ]) (mathlib.Core.List.Memᴰ.cases_cons f.among) in
    let P : Tree → Type 0 = λ z. Word n.plan z q.start r.0 in
    subst C (sym r.2) (record { output = word→output (subst P e f.word); starts = refl; ends = f.ends; allowed = of_from n.plan n.rule q.start q.target (map step_of r.0) f.allowed })

-- The answers of the search are the answers of the enquiry.
use Rattle.std.proofs.Common.{◌≡◌, ℕ, ◌<◌, ◌≤◌, true, List, [], map, length, sym, refl, ap, ◌∙◌, subst, ap₂, arith}
use lib.ListN.{length-map}
use Rattle.model.specs.Routes.{Step, Along, len, end_from}
use Rattle.model.specs.Rules.{Allowed}
use Rattle.model.specs.Records.{Line, Record, Answer, answer_of, record_of, step_of}
use Rattle.model.specs.Questions.{EnquiryMeaning, Question, Candidate, Lawful}
use Rattle.model.proofs.Marks.{is_path}
use Rattle.model.proofs.Answers.{is_trail}
use Rattle.model.proofs.Words.{Word, Spelt, word→output, output→word}
use Rattle.automaton.specs.Tables.{Recognises}
use Rattle.automaton.specs.declared.Automaton.{Automaton}
use Rattle.route.specs.Tracks.{Taken, Track}
use Rattle.route.specs.Limits.{limit}
use Rattle.route.proofs.Limits.{routes_are_short_lem}
use Rattle.search.specs.Spaces.{Goal}
use Rattle.search.specs.Listings.{Standing, StandingOn, route_at}
use Rattle.search.specs.Hunts.{space_of}
use Rattle.bridge.specs.Lines.{told, told_lines, line_codes}
use Rattle.bridge.specs.Ahead.{From}
use Rattle.bridge.specs.Statement.{AnswersAgree}
use Rattle.bridge.proofs.Spell.{accepts_exactly}
use Rattle.bridge.proofs.Readings.{spelt_again}
use Rattle.bridge.proofs.Walk.{back, final_from, complete}

module _ (n : EnquiryMeaning) (kept : Lawful n) (a : Automaton) (rec : Recognises a n.pattern) (q : Question) (low : q.start < n.plan.zones) (most : ℕ) where
  -- lines that lead on from the start write down a candidate
  candidate : (ls : List Line) → From n.plan n.rule a q.target (route_at q.start []) ls → Candidate n q (answer_of (record { start = q.start; lines = ls }))
  candidate ls f = record {
    output = word→output ((accepts_exactly n.plan a n.pattern rec q.start ls low f.along).0 f.read);
    starts = refl;
    ends = f.ends;
    allowed = f.allowed;
  }

  sound_at : (xs : List Taken) → StandingOn (space_of n.plan n.rule a q.target most) q.start xs → (space_of n.plan n.rule a q.target most).final (route_at q.start xs) ≡ true → Candidate n q (told (route_at q.start xs))
  sound_at xs s h = candidate (told_lines xs []) (back n.plan n.rule a q.target most q.start xs [] s (final_from n.plan n.rule a q.target most (route_at q.start xs) h))

  sound : (e : Track) → e.start ≡ q.start → Standing (space_of n.plan n.rule a q.target most) e → (space_of n.plan n.rule a q.target most).final e ≡ true → Candidate n q (told e)
  sound e p s h =
      let P : ℕ → Type 0 = λ z. StandingOn (space_of n.plan n.rule a q.target most) z e.steps → (space_of n.plan n.rule a q.target most).final (route_at z e.steps) ≡ true → Candidate n q (told (route_at z e.steps)) in
      subst P (sym p) (sound_at e.steps) s h

  -- the lines of a candidate
  pub record Lined (b : Answer) : Type 0 where
    pub lines : List Line
    pub from : From n.plan n.rule a q.target (route_at q.start []) lines
    pub recorded : (record_of b).lines ≡ lines
    pub long : length lines ≡ len b.route

  pub lined : (b : Answer) → Candidate n q b → Lined b
  lined b c = record { lines = s.lines; from = from; recorded = ap (λ (k : Record). k.lines) (spelt_again s (is_trail n kept q b c)); long = sym (length-map s.lines step_of) ∙ ap length s.steps_are }
    where
      s : Spelt n.plan n.pattern b.route b.lists
      s = output→word c.output

      word : Word n.plan n.pattern q.start s.lines
      word = subst (λ (v : ℕ). Word n.plan n.pattern v s.lines) c.starts s.word

      along : Along n.plan q.start (map step_of s.lines)
      along = (is_path (word→output word)).1

      Q : ℕ → List Step → Type 0
      Q v ss = Allowed n.rule (record { start = v; steps = ss })

      allowed : Q q.start (map step_of s.lines)
      allowed = subst (λ (v : ℕ). Q v (map step_of s.lines)) c.starts (subst (λ (ss : List Step). Q b.route.start ss) (sym s.steps_are) c.allowed)

      from : From n.plan n.rule a q.target (route_at q.start []) s.lines
      from = record {
        along = along;
        allowed = allowed;
        ends = ap₂ end_from (sym c.starts) s.steps_are ∙ c.ends;
        read = (accepts_exactly n.plan a n.pattern rec q.start s.lines low along).1 word;
      }

  whole : (b : Answer) → Candidate n q b → len b.route ≤ most → Goal (space_of n.plan n.rule a q.target most) (route_at q.start []) (line_codes (record_of b).lines)
  whole b c l =
      let h = lined b c in
      subst (λ (ls : List Line). Goal (space_of n.plan n.rule a q.target most) (route_at q.start []) (line_codes ls)) (sym h.recorded)
      (complete n.plan n.rule a q.target most h.lines (route_at q.start []) (omega (arith, h.long)) h.from)

-- no passage of a candidate repeats, so it is short
pub short : (n : EnquiryMeaning) → Lawful n → (q : Question) (b : Answer) → Candidate n q b → len b.route ≤ limit n.rule
short n kept q b c = (routes_are_short_lem n.rule kept).paths n.plan b.route (is_path c.output) c.allowed

pub answers_agree : AnswersAgree
answers_agree n kept a rec q low most = record { sound = sound n kept a rec q low most; complete = whole n kept a rec q low most; short = short n kept q }

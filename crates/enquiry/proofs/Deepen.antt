-- The least length, by searches under growing caps.
use Rattle.std.proofs.Common.{◌≡◌, ℕ, ◌+◌, ◌<◌, ◌≤◌, Bool, true, false, [], sym, subst, arith}
use borrow.Author.Tests.{clash}
use native.Mathlib.Decide.{dec_lt}
use Rattle.model.specs.Plans.{PlanMeaning}
use Rattle.model.specs.Routes.{len}
use Rattle.model.specs.Rules.{RuleMeaning, KeepsLaws}
use Rattle.model.specs.Patterns.{Tree}
use Rattle.model.specs.Records.{Answer, record_of}
use Rattle.model.specs.Questions.{Question, Candidate}
use Rattle.automaton.specs.Tables.{Recognises}
use Rattle.automaton.specs.declared.Automaton.{Automaton}
use Rattle.model.specs.declared.Choice.TheVariants.{Shortest}
use Rattle.route.specs.Tracks.{Track}
use Rattle.search.specs.Spaces as tr
use Rattle.search.specs.Listings as li
use Rattle.search.specs.Listings.{StandingOn, route_at, Delivered}
use Rattle.route.specs.Limits.{limit}
use Rattle.search.proofs.Follow.{answer_to}
use Rattle.bridge.specs.Lines.{told, line_codes}
use Rattle.search.specs.Hunts.{space_of}
use Rattle.bridge.proofs.Agreed.{short}
use Rattle.enquiry.specs.Promises.{asked, Least}
use Rattle.enquiry.proofs.Deliveries as v

abbrev pub Ask : ℕ → ℕ → Question
Ask z target = record { start = z; target = target; choice = Shortest }

-- no allowed output is shorter
abbrev pub Under : PlanMeaning → RuleMeaning → Automaton → ℕ → ℕ → ℕ → Type 0
Under pl ru a z target most = (t : Tree) → Recognises a t → z < pl.zones → (b : Answer) → Candidate (asked pl ru t) (Ask z target) b → most ≤ len b.route

module _ (pl : PlanMeaning) (ru : RuleMeaning) (laws : KeepsLaws ru) (a : Automaton) (z target most : ℕ) where
  abbrev T : tr.Space
  T = space_of pl ru a target most

  -- what the search from the start came to
  abbrev Told : Bool → Track → Type 0
  Told b e = li.Standing T (route_at z []) → Delivered T false (route_at z []) b e

  pub found : (b : Bool) (e : Track) → b ≡ true → Told b e → Under pl ru a z target most → (t : Tree) → Recognises a t → z < pl.zones → Least (asked pl ru t) z target most
  unfolding Delivered
  found false e s h u t rec low = absurd (clash s)
  found true e s h u t rec low =
      let d = h tt in
      let st : StandingOn T z e.steps = subst (λ (y : ℕ). StandingOn T y e.steps) d.starts d.stands in
      let f = answer_to T z e.steps [] st d.answer in (
        u t rec low,
        λ b k. (told (route_at z e.steps), v.candidate (asked pl ru t) laws a rec z target Shortest most low e.steps st f, v.kept_len (asked pl ru t) laws a rec z target Shortest most low e.steps st),
      )

  pub none : (b : Bool) (e : Track) → b ≡ false → Told b e → Under pl ru a z target most → Under pl ru a z target (most + 1)
  unfolding Delivered
  none true e s h u t rec low b k = absurd (clash (sym s))
  none false e s h u t rec low b k = elim (dec_lt most (len b.route)) [
    | yes x ↦ omega arith
    | no x ↦ absurd (h tt (line_codes (record_of b).lines) (v.search_answer (asked pl ru t) laws a rec z target Shortest most low b k (omega arith)) tt)
  ]

  pub all_tried : most ≡ limit ru → Under pl ru a z target most → (t : Tree) → Recognises a t → z < pl.zones → Least (asked pl ru t) z target most
  all_tried e u t rec low = (u t rec low, λ b k. (b, k, omega (arith, short (asked pl ru t) laws (Ask z target) b k)))

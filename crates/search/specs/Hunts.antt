-- The search space of an enquiry: plan, rule, automaton, target and a greatest length.
use Rattle.std.specs.Prelude.{ℕ, cond, not, ◌&&◌, length, Some, None, Option, ◌==◌, bit_and, nat_lt}
use Rattle.model.specs.Plans.{Passage, PlanMeaning}
use Rattle.model.specs.Rules.{RuleMeaning}
use Rattle.automaton.specs.Step.{stepped}
use Rattle.automaton.specs.declared.Automaton.{Automaton}
use Rattle.route.specs.Tracks.{Track, bare, last_zone, last_mask}
use Rattle.search.specs.Spaces.{Code, Space}
use Rattle.search.specs.declared.cursor.Cursor.{Cursor}
use Rattle.search.specs.declared.search.Search.{Search}

-- The states before the first passage.
abbrev pub first_mask : ℕ
first_mask = 2147483648

-- What the step c by a passage with these ends and this kind reaches from the track s: the zone and the states after
-- it. It may be added if the passage leaves the zone in which the track ends, the mark is below 9, the track is not yet
-- as long as may be, some state is left and the rule permits it.
abbrev pub judged : RuleMeaning → Automaton → ℕ → Track → Code → ℕ → ℕ → ℕ → Option (ℕ × ℕ)
judged ru a most s c from to kind =
    let k = stepped a (last_mask first_mask s.steps) kind c.mark in
    cond ((((from == last_zone s.start s.steps && nat_lt c.mark 9) && nat_lt (length s.steps) most) && not (k == 0)) && ru.permits (bare s) c.passage to) (Some (to, k)) None

-- The same by a passage number, which may name none.
abbrev pub reach_by : RuleMeaning → Automaton → ℕ → Track → Code → Option Passage → Option (ℕ × ℕ)
reach_by ru a most s c (Some p) = judged ru a most s c p.origin p.destination p.kind
reach_by ru a most s c None = None

-- The space: which steps may be added where, and which tracks end at the target with the pattern read.
unfoldable pub space_of : PlanMeaning → RuleMeaning → Automaton → ℕ → ℕ → Space
space_of m ru a target most = record {
  reach = λ s c. reach_by ru a most s c (m.passage c.passage);
  final = λ s. (last_zone s.start s.steps == target) && not (bit_and (last_mask first_mask s.steps) a.accept == 0);
}

-- The space of a search and a cursor, by what plans and rules mean.
abbrev pub space_at : {P R : Type 0} → (P → PlanMeaning) → (R → RuleMeaning) → Search P R → Cursor → Space
space_at plan_of rule_of s d = space_of (plan_of s.plan) (rule_of s.rule) s.automaton d.target d.most

-- How lines lead on from a track to an answer.
use Rattle.std.specs.Prelude.{◌≡◌, ℕ, Bool, true, not, T, List, [], ◌∷◌, ◌++◌, map, ◌==◌, bit_and}
use Rattle.model.specs.Plans.{PlanMeaning}
use Rattle.model.specs.Routes.{Step, Route, Along, end_from}
use Rattle.model.specs.Rules.{RuleMeaning}
use Rattle.model.specs.Records.{Line, step_of, mark_word}
use Rattle.automaton.specs.Step.{stepped}
use Rattle.automaton.specs.declared.Automaton.{Automaton}
use Rattle.route.specs.Tracks.{Track, bare, last_zone, last_mask}
use Rattle.search.specs.Hunts.{first_mask}
use Rattle.bridge.specs.Lines.{kind_at}

-- The states that the lines lead to from those of the mask.
abbrev pub mask_after : PlanMeaning → Automaton → ℕ → List Line → ℕ
mask_after pl a mask [] = mask
mask_after pl a mask (x ∷ xs) = mask_after pl a (stepped a mask (kind_at pl x.number) (mark_word x.mark)) xs

-- Whether some state of the mask accepts.
abbrev pub accepts : Automaton → ℕ → Bool
accepts a mask = not (bit_and mask a.accept == 0)

-- Each of the steps may be added to the route with the steps before it.
abbrev pub AllowedOn : RuleMeaning → Route → List Step → Type 0
AllowedOn ru r ss = (before after : List Step) (s : Step) → ss ≡ before ++ (s ∷ after) → T (ru.permits (record { start = r.start; steps = r.steps ++ before }) s.number s.reached)

-- From the track s the lines lead on to an answer.
pub record From (pl : PlanMeaning) (ru : RuleMeaning) (a : Automaton) (target : ℕ) (s : Track) (ls : List Line) : Type 0 where
  -- their passages lead on from one another, the first from the zone in which the track ends
  pub along : Along pl (last_zone s.start s.steps) (map step_of ls)
  -- the rule lets each be added
  pub allowed : AllowedOn ru (bare s) (map step_of ls)
  -- they end in the target
  pub ends : end_from (last_zone s.start s.steps) (map step_of ls) ≡ target
  -- and the automaton accepts after them
  pub read : accepts a (mask_after pl a (last_mask first_mask s.steps) ls) ≡ true

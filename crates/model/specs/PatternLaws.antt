-- What outputs of patterns are, said in other words.
use Rattle.std.specs.Prelude.{◌↔◌, None}
use Rattle.model.specs.declared.Label.TheVariants.{Any}
use Rattle.model.specs.Plans.{PlanMeaning}
use Rattle.model.specs.Routes.{Route, IsPath}
use Rattle.model.specs.Patterns.{Lists, no_lists, Tree, name, empty, ◌then◌, ◌or◌, star, plus, maybe, Output}

-- The routes of patterns are paths, and every path is one of `any*`; one or more is one and then zero or more, zero or
-- one is none or one.
pub record PatternLaws : Type 0 where
  pub outputs_are_paths : (pl : PlanMeaning) (x : Tree) (r : Route) (m : Lists) → Output pl x r m → IsPath pl r
  pub paths_are_outputs : (pl : PlanMeaning) (r : Route) → IsPath pl r → Output pl (star (name Any None)) r no_lists
  pub plus_is : (pl : PlanMeaning) (x : Tree) (r : Route) (m : Lists) → Output pl (plus x) r m ↔ Output pl (x then star x) r m
  pub maybe_is : (pl : PlanMeaning) (x : Tree) (r : Route) (m : Lists) → Output pl (maybe x) r m ↔ Output pl (empty or x) r m

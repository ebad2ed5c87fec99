-- What outputs of patterns are, said in other words.
use Rattle.std.proofs.Common.{ℕ, ◌<◌, List, [], ◌∷◌, None, refl}
use Rattle.model.specs.declared.Label.TheVariants.{Any}
use Rattle.model.specs.Plans.{PlanMeaning}
use Rattle.model.specs.Routes.{Step, Route, Along}
use Rattle.model.specs.Patterns.{Lists, no_lists, Tree, name, empty, ◌then◌, ◌or◌, star, plus, maybe, Output}
use Rattle.model.specs.Patterns.Output.{one, stay, join, left, right, zero_times, once_more, at_least_once, without, with_it}
use Rattle.model.specs.PatternLaws.{PatternLaws}
use Rattle.model.proofs.Bounds.{within}
use Rattle.model.proofs.Marks.{is_path}

path_output : (pl : PlanMeaning) (v : ℕ) (ss : List Step) → v < pl.zones → Along pl v ss → Output pl (star (name Any None)) (record { start = v; steps = ss }) no_lists
path_output pl v [] h a = zero_times h
path_output pl v (s ∷ ss) h a = once_more (one {s = s} a.0.1 tt) (path_output pl s.reached ss (within pl s.number _ a.0.1).1 a.1) (record { meet = refl; from = refl; on = refl })

plus_then : {pl : PlanMeaning} {x : Tree} {r : Route} {m : Lists} → Output pl (plus x) r m → Output pl (x then star x) r m
plus_then (at_least_once a b j) = join a b j

then_plus : {pl : PlanMeaning} {x : Tree} {r : Route} {m : Lists} → Output pl (x then star x) r m → Output pl (plus x) r m
then_plus (join a b j) = at_least_once a b j

maybe_or : {pl : PlanMeaning} {x : Tree} {r : Route} {m : Lists} → Output pl (maybe x) r m → Output pl (empty or x) r m
maybe_or (without h) = left (stay h)
maybe_or (with_it a) = right a

stay_maybe : {pl : PlanMeaning} {x : Tree} {r : Route} {m : Lists} → Output pl empty r m → Output pl (maybe x) r m
stay_maybe (stay h) = without h

or_maybe : {pl : PlanMeaning} {x : Tree} {r : Route} {m : Lists} → Output pl (empty or x) r m → Output pl (maybe x) r m
or_maybe (left a) = stay_maybe a
or_maybe (right a) = with_it a

pub pattern_laws : PatternLaws
pattern_laws = record {
  outputs_are_paths = λ pl x r m o. is_path o;
  paths_are_outputs = λ pl r p. path_output pl r.start r.steps p.0 p.1;
  plus_is = λ pl x r m. (plus_then, then_plus);
  maybe_is = λ pl x r m. (maybe_or, or_maybe);
}

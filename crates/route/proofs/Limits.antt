-- How long an allowed route can be: no passage below 256 repeats, so there are at most 256.
use Rattle.std.proofs.Common.{◌≤◌, arith}
use Rattle.model.specs.Routes.{Route, len}
use Rattle.model.specs.Rules.{RuleMeaning, Allowed, Plain, KeepsLaws}
use Rattle.model.proofs.Answers.{plain}
use Rattle.model.proofs.RuleLaws.{trail_short}
use Rattle.route.specs.Limits.{limit, RoutesAreShort}

within_limit : (ru : RuleMeaning) → KeepsLaws ru → (r : Route) → Plain r → Allowed ru r → len r ≤ limit ru
within_limit ru k r p a =
    let stated : len r ≤ ru.greatest = k.no_longer r p a in
    let few : len r ≤ 256 = trail_short r p (k.no_passage_twice r p a) in
    omega arith

pub routes_are_short_lem : RoutesAreShort
routes_are_short_lem ru k = record { plain_routes = within_limit ru k; paths = λ pl r p a. within_limit ru k r (plain pl r p) a }

-- A record of no step holds the track of its start.
use Rattle.std.proofs.Common.{◌≡◌, ℕ, []}
use Rattle.route.specs.declared.Route.{Route}
use Rattle.route.specs.Reading.{track_of, taken_at}
use Rattle.route.proofs.Views.{taken_none}
use Rattle.search.specs.Listings.{route_at}

pub fresh : (r : Route) (z : ℕ) → r.start ≡ z → r.len ≡ 0 → track_of r ≡ route_at z []
fresh r z s l = λ i. record { start = s i; steps = taken_none (taken_at r) r.len l i }

-- Where a listing stands, as a track.
use Rattle.std.specs.Prelude.{Bool, true, false, [], Some, None, Option}
use Rattle.route.specs.Tracks.{Track}
use Rattle.route.specs.Reading.{track_of}
use Rattle.route.specs.declared.Route.{Route}
use Rattle.search.specs.Spaces.{Space}
use Rattle.search.specs.Listings.{Delivered}
use Rattle.search.specs.declared.cursor.Cursor.{Cursor}
use Rattle.search.specs.declared.progress.Progress.{Progress}
use Rattle.search.specs.declared.progress.Progress.TheVariants.{AtFront, Behind}

-- The track from which the search goes on: no step from the start zone, or the answer that was delivered last.
abbrev pub trail : Progress → Track
trail (AtFront z) = record { start = z; steps = [] }
trail (Behind r) = track_of r

-- Whether an answer was delivered.
abbrev pub begun : Progress → Bool
begun (AtFront z) = false
begun (Behind r) = true

-- The cursor, standing elsewhere.
abbrev pub placed : Cursor → Progress → Cursor
placed d p = record { choice = d.choice; target = d.target; most = d.most; progress = p; short = d.short }

-- The route is the first answer to come after where the listing stands; or there is none, and none is to come.
abbrev pub Comes : Space → Progress → Option Route → Type 0
Comes t p (Some r) = Delivered t (begun p) (trail p) true (track_of r)
Comes t p None = Delivered t (begun p) (trail p) false (trail p)

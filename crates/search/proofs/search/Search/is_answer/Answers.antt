use Rattle.std.proofs.Common.{rules}
use Rattle.search.specs.Hunts.{space_of}
use Rattle.search.proofs.search.Search.is_answer.Goals as goal

pub returns-then-here-cursor : goal.returns-then-here-cursor
unfolding space_of
returns-then-here-cursor g c = search rules

pub returns-else-here-cursor : goal.returns-else-here-cursor
unfolding space_of
returns-else-here-cursor g c = search rules

use Rattle.pattern.proofs.Parsers.{either_some}
use Rattle.pattern.proofs.levels.Level.chosen.Goals as goal

pub returns-in-Some : goal.returns-in-Some
returns-in-Some c lo mid b t h = either_some c.args.automaton.now c.in-Some.before c.args.sequence _ c.either.ensures lo mid b t (rw c.in-Some.is at h)

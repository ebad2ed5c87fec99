use Rattle.automaton.proofs.Connect.{either_built}
use Rattle.automaton.proofs.Automaton.either.Goals as goal

pub returns : goal.returns
returns c = either_built c.args.self.now c.args.a c.args.b c.or.result c.or.ensures

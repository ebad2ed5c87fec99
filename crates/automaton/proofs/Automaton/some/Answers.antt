use Rattle.automaton.proofs.Connect.{same_in, plus_built}
use Rattle.automaton.proofs.Automaton.some.Goals as goal

pub returns-clause-built : goal.returns-clause-built
returns-clause-built c = plus_built c.args.self.now _ (λ q x. same_in) c.args.part c.link.ensures

use Rattle.automaton.proofs.Connect.{same_in, then_built}
use Rattle.automaton.proofs.Automaton.sequence.Goals as goal

pub returns-clause-built : goal.returns-clause-built
returns-clause-built c = then_built c.args.self.now _ (λ q x. same_in) c.args.a c.args.b c.then.result c.link.ensures c.then.ensures

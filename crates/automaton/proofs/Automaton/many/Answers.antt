use Rattle.std.proofs.Common.{refl}
use Rattle.automaton.proofs.Connect.{same_in, star_built}
use Rattle.automaton.proofs.Automaton.many.Goals as goal

pub returns-clause-built : goal.returns-clause-built
returns-clause-built c = star_built c.args.self.now _ (λ q x. same_in) c.args.a _ c.link.ensures (record { null = (λ _. tt, λ _. refl); first = λ q. same_in; last = λ q. same_in })

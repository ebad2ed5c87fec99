use Rattle.automaton.proofs.Steps.{holds_start, stands_start}
use Rattle.automaton.proofs.Automaton.start.Goals as goal

pub returns-clause-holds : goal.returns-clause-holds
returns-clause-holds c = holds_start c.args.self.now

pub returns-clause-stands : goal.returns-clause-stands
returns-clause-stands c = stands_start c.args.self.now

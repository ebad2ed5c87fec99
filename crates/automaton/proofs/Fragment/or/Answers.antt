use Rattle.std.proofs.Common.{rules}
use Rattle.bits.proofs.Bit.{has_or}
use Rattle.automaton.proofs.Fragment.or.Goals as goal

pub returns : goal.returns
returns c = record { null = search rules; first = has_or c.args.self.first c.args.b.first; last = has_or c.args.self.last c.args.b.last }

use Rattle.std.proofs.Common.{rules}
use Rattle.automaton.proofs.Masks.{or_only}
use Rattle.automaton.proofs.Fragment.then.Goals as goal

pub returns : goal.returns
returns c = record { null = search rules; first = or_only _ _ _ _ c.only_if.ensures; last = or_only _ _ _ _ c.only_if-2.ensures }

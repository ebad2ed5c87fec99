use Rattle.automaton.proofs.Masks.{Linked}
use Rattle.automaton.proofs.link.Given as goal

abbrev pub invariant-loop-s : goal.invariant-loop-s
invariant-loop-s l = Linked l.initial.follow l.follow l.from l.to l.s

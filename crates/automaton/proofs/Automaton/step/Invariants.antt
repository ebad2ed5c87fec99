use Rattle.std.proofs.Common.{◌≡◌}
use Rattle.automaton.specs.Step.{gather}
use Rattle.automaton.proofs.Automaton.step.Given as goal

abbrev pub invariant-loop-s : goal.invariant-loop-s
invariant-loop-s l = l.reach ≡ gather l.self.follow l.mask l.s

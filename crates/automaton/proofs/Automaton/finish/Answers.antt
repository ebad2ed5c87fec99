use Rattle.std.proofs.Common.{rules}
use Rattle.automaton.proofs.Connect.{finish_recognises}
use Rattle.automaton.proofs.Automaton.finish.Goals as goal

pub returns : goal.returns
returns c = finish_recognises c.args.self.now c.args.f c.only_if.result c.requires (search rules) c.only_if.ensures

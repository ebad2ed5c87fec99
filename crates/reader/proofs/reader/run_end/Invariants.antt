use Rattle.reader.specs.Tokens.{AllOf}
use Rattle.reader.proofs.reader.run_end.Given as goal

abbrev pub invariant-loop-n : goal.invariant-loop-n
invariant-loop-n l = AllOf l.class l.text l.from l.n

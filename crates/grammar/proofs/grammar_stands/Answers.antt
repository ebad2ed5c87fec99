use Rattle.grammar.proofs.Sound.{sound, complete, alive, dead, one}
use Rattle.grammar.proofs.grammar_stands.Goals as goal

pub returns : goal.returns
returns c = record { goes = (alive, dead); gives = λ ts t. (complete ts t, sound ts t); one = one }

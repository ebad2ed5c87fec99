use Rattle.std.proofs.Common.{refl, ap}
use Rattle.grammar.specs.Machine as machine
use Rattle.pattern.proofs.Parsers.{no_caret, careted_goes}
use Rattle.pattern.proofs.parser.Parser.caret.Goals as goal

pub returns-in_default : goal.returns-in_default
returns-in_default c n fs b q m h = (refl, ap (machine.in_mode fs b q) (no_caret h.last c.in_default.not-Named))

pub returns : goal.returns
returns c n fs b q m h = careted_goes _ _ _ _ n fs b q m c.in-Named.label c.in-Named.is h

use Rattle.pattern.proofs.Parsers.{shown_new}
use Rattle.pattern.proofs.parser.Parser.new.Goals as goal

pub returns : goal.returns
returns c = shown_new _ _ _ c.new.ensures.none c.new-2.ensures c.default.ensures.0 c.default.ensures.1

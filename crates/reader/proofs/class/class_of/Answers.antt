use Rattle.std.proofs.Common.{rules}
use Rattle.reader.proofs.Table.{right, classed}
use Rattle.reader.proofs.class.class_of.Goals as goal

pub returns : goal.returns
unfolding right
returns c = search (classed, rules)

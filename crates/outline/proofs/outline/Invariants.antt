use Rattle.std.proofs.Common.{◌-◌, length}
use Rattle.outline.proofs.outline.Given as goal

abbrev pub decreases-loop-symbol : goal.decreases-loop-symbol
decreases-loop-symbol l = length l.reader.text.now - l.reader.at

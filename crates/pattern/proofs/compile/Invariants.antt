use Rattle.std.proofs.Common.{◌≡◌, ◌-◌, length}
use Rattle.pattern.proofs.Turns.{Sofar}
use Rattle.pattern.proofs.compile.Given as goal

abbrev pub invariant-tokens : goal.invariant-tokens
invariant-tokens l = (l.reader.text.now ≡ l.text) × Sofar l.text l.reader.at l.parser

abbrev pub decreases-tokens : goal.decreases-tokens
decreases-tokens l = length l.text - l.reader.at

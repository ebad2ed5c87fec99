use Rattle.std.proofs.Common.{refl, ap}
use Rattle.grammar.specs.Machine as machine
use Rattle.pattern.proofs.Parsers.{passed_on, barred_shows}
use Rattle.pattern.proofs.parser.Parser.bar.Goals as goal

pub returns-in_err-all : goal.returns-in_err-all
returns-in_err-all c n fs b q m h =
    let e = c.in_err-all.ensures n fs b q m h in
    rw (passed_on c.from_residual.result c.from_residual.ensures.1 e.0) (refl, ap (machine.barred fs b q) e.1)

pub returns : goal.returns
returns c n fs b q m h =
    let (t, e, w) = c.in_ok-all.ensures n fs b q m h in
    record { levels = fs; sequences = _; items = _; last = machine.due; step = ap (machine.barred fs b q) e; shows = barred_shows _ _ _ n fs _ _ w }

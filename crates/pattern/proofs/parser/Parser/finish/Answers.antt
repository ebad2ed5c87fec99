use Rattle.std.proofs.Common.{refl}
use Rattle.pattern.proofs.Parsers.{passed_on, finish_none, some_open, ended}
use Rattle.pattern.proofs.parser.Parser.finish.Goals as goal

pub returns-in_err-all : goal.returns-in_err-all
returns-in_err-all c n fs b q m h =
    let e = c.in_err-all.ensures n fs b q m h in
    rw (passed_on c.from_residual.result c.from_residual.ensures.1 e.0) (refl, finish_none fs b q m e.1)

pub returns-then-self-gt0 : goal.returns-then-self-gt0
returns-then-self-gt0 c n fs b q m h =
    let (t, e, w) = c.in_ok-all.ensures n fs b q m h in
    (refl, some_open _ _ _ n fs b q m _ _ c.if-self-gt0.true w)

pub returns : goal.returns
returns c n fs b q m h =
    let (t, e, w) = c.in_ok-all.ensures n fs b q m h in
    let d = ended _ _ _ n fs b q m _ t c.if-self-gt0.false w e in
    (_, d.0, c.finish.ensures _ d.1)

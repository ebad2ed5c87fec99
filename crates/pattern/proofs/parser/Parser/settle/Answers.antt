use Rattle.std.proofs.Common.{refl}
use Rattle.pattern.proofs.Parsers.{passed_on, tail, settled, was_due, begin_some, begin_none}
use Rattle.pattern.proofs.parser.Parser.settle.Goals as goal

pub returns-in-Due : goal.returns-in-Due
returns-in-Due c n fs b q m h = let d = was_due _ _ _ n fs b q _ m c.in-Due.is h in (q, d.0, c.in-Due.is, d.1)

pub returns-in_err-item : goal.returns-in_err-item
returns-in_err-item c n fs b q m h =
    let e = c.in_err-item.ensures in
    rw (passed_on c.from_residual.result c.from_residual.ensures.1 e.0) (refl, begin_none q h.last c.in_default.not-Due (e.1 h.hi m h.last))

pub returns : goal.returns
returns c n fs b q m h =
    let (t, e, s) = tail c.args.self.now c.item.new.self c.joined.new.automaton n fs b q m _ _ h c.in_ok-item.ensures c.joined.ensures in
    (_, begin_some q m t e, c.in_ok-item.ensures.due, settled c.item.new.self c.joined.new.automaton n fs b _ _ s)

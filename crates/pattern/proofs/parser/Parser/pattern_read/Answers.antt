use Rattle.std.proofs.Common.{refl}
use Rattle.pattern.proofs.Parsers.{passed_on, tail, whole}
use Rattle.pattern.proofs.parser.Parser.pattern_read.Goals as goal

pub returns-in_err-item : goal.returns-in_err-item
returns-in_err-item c n fs b q m h =
    let e = c.in_err-item.ensures in
    rw (passed_on c.from_residual.result c.from_residual.ensures.1 e.0) (refl, e.1 h.hi m h.last)

pub returns : goal.returns
returns c n fs b q m h =
    let (t, e, s) = tail c.args.self.now c.item.new.self c.joined-sequence.new.automaton n fs b q m _ _ h c.in_ok-item.ensures c.joined-sequence.ensures in
    (t, e, whole c.item.new.self c.joined-sequence.new.automaton n fs b _ _ _ _ s (c.chosen.ensures s.lo s.mid b _ s.sequences s.below s.compiled))

use Rattle.std.proofs.Common.{refl, ap, arith}
use Rattle.grammar.specs.Machine as machine
use Rattle.pattern.proofs.Parsers.{passed_on, times_item, times_none, repeated_goes}
use Rattle.pattern.proofs.parser.Parser.repeat.Goals as goal

pub returns-in-Item : goal.returns-in-Item
returns-in-Item c n fs b q m h = (refl, ap (machine.in_mode fs b q) (times_item c.args.times (rw c.in-Item.is at h.last)))

pub returns-in_err-atom : goal.returns-in_err-atom
returns-in_err-atom c n fs b q m h =
    let e = c.in_err-atom.ensures in
    rw (passed_on c.from_residual.result c.from_residual.ensures.1 e.0) (refl, ap (machine.in_mode fs b q) (times_none c.args.times m (e.1 h.hi m h.last)))

pub invariant_of-self : goal.invariant_of-self
invariant_of-self c =
    let k = c.repeated.ensures.0 in
    record { few = omega (arith, k.count, c.item.new.self.few); within = k.within c.item.new.self.within; room = tt }

pub returns : goal.returns
returns c n fs b q m h = repeated_goes c.args.self.now c.item.new.self n fs b q m c.args.times c.repeated.new.automaton _ _ h c.in_default.not-Item c.in_ok-atom.ensures c.repeated.ensures

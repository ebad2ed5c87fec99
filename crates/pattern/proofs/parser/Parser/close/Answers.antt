use Rattle.std.proofs.Common.{◌≡◌, None, refl, ap, ◌∙◌}
use Rattle.fault.specs.declared.PatternFault.TheVariants.{Misplaced}
use Rattle.grammar.specs.Machine as machine
use Rattle.pattern.proofs.Parsers.{passed_on, closed_none, none_open, closed_goes}
use Rattle.pattern.proofs.parser.Parser.close.Goals as goal

pub returns-in_err-all : goal.returns-in_err-all
returns-in_err-all c n fs b q m h =
    let e = c.in_err-all.ensures n fs b q m h in
    rw (passed_on c.from_residual.result c.from_residual.ensures.1 e.0) (refl, ap (machine.closed fs b q) e.1 ∙ closed_none fs b q)

pub returns-in_err-self : goal.returns-in_err-self
returns-in_err-self c n fs b q m h =
    let (t, e, w) = c.in_ok-all.ensures n fs b q m h in
    let none : c.pop.result ≡ None = c.in_err-self.ensures.ok_part in
    let is : c.in_err-self.field-0.0 ≡ Misplaced c.args.place = cc (rw none at c.in_err-self.ensures.value) in
    let empty = rw none at c.pop.ensures in
    rw (passed_on c.from_residual-in_err-self.result c.from_residual-in_err-self.ensures.1 is) (refl, none_open _ _ _ n fs b q _ _ _ empty w)

pub returns : goal.returns
returns c n fs b q m h =
    let (t, e, w) = c.in_ok-all.ensures n fs b q m h in
    closed_goes _ _ _ n _ _ fs b q m _ t (rw c.in_ok-self.ensures.ok_part at c.pop.ensures) e w

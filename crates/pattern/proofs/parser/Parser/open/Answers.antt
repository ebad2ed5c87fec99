use Rattle.std.proofs.Common.{◌≡◌, ◌∷◌, None, sym, refl, ap, ◌∙◌}
use Rattle.fault.specs.declared.PatternFault.TheVariants.{Nested}
use Rattle.grammar.specs.Machine as machine
use Rattle.pattern.proofs.Parsers.{passed_on, some_none, levels_length, opened_shows}
use Rattle.pattern.proofs.parser.Parser.open.Goals as goal

pub returns-in_err-settle : goal.returns-in_err-settle
returns-in_err-settle c n fs b q m h =
    let e = c.in_err-settle.ensures n fs b q m h in
    rw (passed_on c.from_residual.result c.from_residual.ensures.1 e.0) (refl, ap (machine.opened fs b) e.1)

pub returns-in_err-ok_or : goal.returns-in_err-ok_or
returns-in_err-ok_or c n fs b q m h =
    let (u, e, d, s) = c.in_ok-settle.ensures n fs b q m h in
    let none : c.push.result ≡ None = c.in_err-ok_or.ensures.ok_part in
    let is : c.in_err-ok_or.field-0.0 ≡ Nested c.args.place = cc (rw none at c.in_err-ok_or.ensures.value) in
    let full = rw none at c.push.ensures in
    rw (passed_on c.from_residual-in_err-ok_or.result c.from_residual-in_err-ok_or.ensures.1 is) (refl, λ z. some_none (ap (machine.opened fs b) e) z, refl, sym (levels_length _ _ _ _ fs s.levels) ∙ full)

pub returns : goal.returns
returns c n fs b q m h =
    let (u, e, d, s) = c.in_ok-settle.ensures n fs b q m h in
    record { levels = machine.level b u ∷ fs; sequences = _; items = _; last = machine.due; step = ap (machine.opened fs b) e; shows = opened_shows _ _ _ n _ _ _ fs b u (rw c.in_ok-ok_or.ensures.ok_part at c.push.ensures) c.default-self.ensures.0 c.default-self.ensures.1 s }

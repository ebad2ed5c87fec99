use Rattle.std.proofs.Common.{refl, ap, arith}
use Rattle.grammar.specs.Machine as machine
use Rattle.pattern.specs.Parts.{is_named}
use Rattle.pattern.proofs.Parsers.{passed_on, with_mode, some_none, last_due}
use Rattle.pattern.proofs.parser.Parser.name.Goals as goal

pub returns-in_err-settle : goal.returns-in_err-settle
returns-in_err-settle c n fs b q m h =
    let e = c.in_err-settle.ensures n fs b q m h in
    rw (passed_on c.from_residual.result c.from_residual.ensures.1 e.0) (refl, ap (machine.begun fs b (machine.named c.args.label)) e.1)

pub returns-then-self-ge-MOST : goal.returns-then-self-ge-MOST
returns-then-self-ge-MOST c n fs b q m h =
    let (u, e, d, s) = c.in_ok-settle.ensures n fs b q m h in
    (refl, λ z. some_none (ap (machine.begun fs b (machine.named c.args.label)) e) z, c.args.label, refl, omega (arith, s.counted, s.few))

pub returns : goal.returns
returns c n fs b q m h =
    let (u, e, d, s) = c.in_ok-settle.ensures n fs b q m h in
    record {
      levels = fs;
      sequences = b;
      items = u;
      last = machine.named c.args.label;
      step = ap (machine.begun fs b (machine.named c.args.label)) e;
      shows = with_mode _ _ _ n fs b u machine.due _ _ _ s (omega (arith, s.counted)) (omega (arith, s.counted)) (is_named (last_due s.last) (omega arith) c.requires);
    }

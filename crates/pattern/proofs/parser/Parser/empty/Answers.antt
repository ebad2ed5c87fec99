use Rattle.std.proofs.Common.{ℕ, refl, ap, subst, arith}
use Rattle.model.specs.Patterns as model
use Rattle.grammar.specs.Machine as machine
use Rattle.automaton.specs.Tables.{Compiled}
use Rattle.pattern.specs.Parts.{is_atom}
use Rattle.pattern.proofs.Parsers.{passed_on, with_mode, last_due}
use Rattle.pattern.proofs.parser.Parser.empty.Goals as goal

pub returns-in_err-settle : goal.returns-in_err-settle
returns-in_err-settle c n fs b q m h =
    let e = c.in_err-settle.ensures n fs b q m h in
    rw (passed_on c.from_residual.result c.from_residual.ensures.1 e.0) (refl, ap (machine.begun fs b (machine.atomed model.empty)) e.1)

pub returns : goal.returns
returns c n fs b q m h =
    let (u, e, d, s) = c.in_ok-settle.ensures n fs b q m h in
    let here = last_due s.last in
    record {
      levels = fs;
      sequences = b;
      items = u;
      last = machine.atomed model.empty;
      step = ap (machine.begun fs b (machine.atomed model.empty)) e;
      shows = with_mode _ _ _ n fs b u machine.due _ _ _ s s.counted s.few (is_atom (omega arith) (subst (λ (x : ℕ). Compiled c.settle.new.self.automaton c.empty.result s.hi x model.empty) here (c.empty.ensures s.hi)));
    }

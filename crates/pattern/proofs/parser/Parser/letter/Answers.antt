use Rattle.std.proofs.Common.{refl, ap, subst, arith}
use Rattle.grammar.specs.Machine as machine
use Rattle.pattern.specs.Parts.{Room}
use Rattle.pattern.specs.declared.parser.Mode.{Mode}
use Rattle.pattern.specs.declared.parser.Mode.TheVariants.{Marking}
use Rattle.pattern.proofs.Parsers.{no_letter, marked_goes}
use Rattle.pattern.proofs.parser.Parser.letter.Goals as goal

pub returns-in_default : goal.returns-in_default
returns-in_default c n fs b q m h = (refl, ap (machine.in_mode fs b q) (no_letter c.args.mark h.last c.in_default.not-Marking))

pub invariant_of-self : goal.invariant_of-self
invariant_of-self c =
    let r : Room c.args.self.now.automaton (Marking c.in-Marking.label) = subst (λ (x : Mode). Room c.args.self.now.automaton x) c.in-Marking.is c.args.self.now.room in
    record { few = omega (arith, c.name.ensures.count, r.0); within = c.name.ensures.within; room = tt }

pub returns : goal.returns
returns c n fs b q m h = marked_goes _ _ _ _ n fs b q m c.in-Marking.label c.args.mark _ _ c.in-Marking.is h c.name.ensures.count c.name.ensures.built

use Rattle.std.proofs.Common.{refl}
use Rattle.pattern.proofs.Parsers.{Left, named_left, atom_left}
use Rattle.pattern.proofs.parser.Parser.item.Goals.{in-Named, in-Atom, in-Atom-2}
use Rattle.pattern.proofs.parser.Parser.item.Goals as goal

pub invariant_of-self-2 : goal.invariant_of-self-2
invariant_of-self-2 c =
    let w : Left c.args.self.now.automaton c.args.self.now.mode c.match-self.self.1.0 c.match-self.item = elim c.match-self.branch [
      | in-Named w ↦ rw (w.self-is, w.item-is) (named_left w.in-Named.is c.args.self.now.room w.name-item.ensures.count w.name-item.ensures.within w.name-item.ensures.built)
      | in-Atom w ↦ rw (w.self-is, w.item-is) (atom_left w.in-Atom.is c.args.self.now.few c.args.self.now.within)
      | in-Atom-2 w ↦ rw (w.self-is, w.item-is) (atom_left w.in-Atom.is c.args.self.now.few c.args.self.now.within)
    ] in
    record { few = w.0; within = w.1; room = tt }

pub returns : goal.returns
returns c =
    let w : Left c.args.self.now.automaton c.args.self.now.mode c.match-self.self.1.0 c.match-self.item = elim c.match-self.branch [
      | in-Named w ↦ rw (w.self-is, w.item-is) (named_left w.in-Named.is c.args.self.now.room w.name-item.ensures.count w.name-item.ensures.within w.name-item.ensures.built)
      | in-Atom w ↦ rw (w.self-is, w.item-is) (atom_left w.in-Atom.is c.args.self.now.few c.args.self.now.within)
      | in-Atom-2 w ↦ rw (w.self-is, w.item-is) (atom_left w.in-Atom.is c.args.self.now.few c.args.self.now.within)
    ] in
    record { due = refl; levels = refl; level = refl; added = w.2 }

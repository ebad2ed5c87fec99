use Rattle.model.specs.Patterns.{Tree}
use Rattle.std.proofs.Common.{take}
use Rattle.automaton.specs.Tables.{Recognises, Stands}
use Rattle.automaton.proofs.Automaton.reads.Given as goal

abbrev pub invariant-loop-kind : goal.invariant-loop-kind
invariant-loop-kind l = (p : Tree) → Recognises l.self p → Stands l.self p (take l.kind-index l.word) l.mask

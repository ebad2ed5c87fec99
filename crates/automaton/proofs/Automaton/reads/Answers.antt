use Rattle.std.proofs.Common.{subst, arith}
use Rattle.std.proofs.lemmas.List.{take_more, take_all}
use Rattle.automaton.specs.Readings.{Word}
use Rattle.automaton.specs.Tables.{Stands}
use Rattle.automaton.proofs.Automaton.reads.Goals as goal

pub loop-kind-preserved : goal.loop-kind-preserved
loop-kind-preserved c p rec = rw (take_more c.args.word.now c.loop-kind.kind-index (0, 0) (omega arith)) (c.step-mask.ensures.along p _ (c.loop-kind.invariant p rec))

pub returns : goal.returns
returns c p rec =
    c.accepts.ensures.reads p _ (subst (λ (w : Word). Stands c.args.self.now p w c.loop-kind.mask) (take_all c.loop-kind.kind-index c.args.word.now (omega arith)) (c.loop-kind.invariant p rec))

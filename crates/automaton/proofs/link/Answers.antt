use Rattle.std.proofs.Common.{◌<◌, length, arith, rules}
use Rattle.std.proofs.lemmas.List.{set-get_or}
use Rattle.bits.proofs.Bit.{has_below}
use Rattle.automaton.proofs.Masks.{linked_more, linked_skip, linked_all}
use Rattle.automaton.proofs.link.Goals as goal
use Rattle.automaton.proofs.link.Goals.{then-from-s-eq1, else-from-s-eq1}

pub loop-s-preserved : goal.loop-s-preserved
loop-s-preserved c = elim c.if-from-s-eq1.branch [
  | then-from-s-eq1 w ↦ let lt : c.loop-s.s < length c.loop-s.follow = search rules in rw w.follow-is (linked_more c.args.follow.now c.loop-s.follow c.args.from c.args.to c.loop-s.s lt c.loop-s.invariant w.if-from-s-eq1.true)
  | else-from-s-eq1 w ↦ rw (w.follow-is, set-get_or) (linked_skip c.args.follow.now c.loop-s.follow c.args.from c.args.to c.loop-s.s c.loop-s.invariant w.if-from-s-eq1.false)
]

pub returns : goal.returns
returns c = linked_all c.args.follow.now c.loop-s.follow c.args.from c.args.to c.loop-s.s (λ s h. let k : s < 32 = has_below 32 c.args.from s (omega arith) h in omega arith) c.loop-s.invariant

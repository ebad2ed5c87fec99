use Rattle.std.proofs.Common.{◌≡◌, ℕ, ◌↔◌, length, get_or, sym, ap, ◌∙◌, arith}
use lib.Bits.{bit_and, bit_or}
use Rattle.bits.specs.Bit.{Has}
use Rattle.automaton.specs.Step.{gather, stepped}
use Rattle.automaton.specs.Tables.{Moves}
use Rattle.automaton.specs.declared.Automaton.{Automaton}
use Rattle.automaton.proofs.Steps.{gather_none, gather_more, gather_skip, stepped_moves, holds_more, stands_more}
use Rattle.automaton.proofs.Automaton.step.Goals as goal
use Rattle.automaton.proofs.Automaton.step.Goals.{then-mask-s-eq1, else-mask-s-eq1}

made : (a : Automaton) (mask kind mark reach fit row : ℕ) → reach ≡ gather a.follow mask (length a.follow) → fit ≡ get_or a.fits kind 0 → row ≡ get_or a.marked mark 0
    → bit_and (bit_and reach (bit_or fit a.any)) row ≡ stepped a mask kind mark
unfolding stepped
made a mask kind mark reach fit row p q r = rw (p, q, r)

moved : (a : Automaton) (mask kind mark r : ℕ) → r ≡ stepped a mask kind mark → (q : ℕ) → Has r q ↔ Moves a mask (kind, mark) q
moved a mask kind mark r e q = rw e (stepped_moves a mask kind mark q)

pub loop-s-init : goal.loop-s-init
loop-s-init c = sym (gather_none c.args.self.now.follow c.args.mask)

pub loop-s-preserved : goal.loop-s-preserved
loop-s-preserved c = elim c.if-mask-s-eq1.branch [
  | then-mask-s-eq1 w ↦ w.reach-is ∙ gather_more c.args.self.now.follow c.args.mask c.loop-s.s c.loop-s.reach c.loop-s.invariant w.if-mask-s-eq1.true
  | else-mask-s-eq1 w ↦ w.reach-is ∙ gather_skip c.args.self.now.follow c.args.mask c.loop-s.s c.loop-s.reach c.loop-s.invariant w.if-mask-s-eq1.false
]

pub returns : goal.returns
returns c =
    let a = c.args.self.now in
    let e : c.loop-s.s ≡ length a.follow = omega arith in
    let value = made a c.args.mask c.args.kind c.args.mark _ _ _ (c.loop-s.invariant ∙ ap (gather a.follow c.args.mask) e) c.row.ensures c.row-2.ensures in
    let moves = moved a c.args.mask c.args.kind c.args.mark _ value in
    record { value = value; moves = moves; holds = holds_more a c.args.mask _ (c.args.kind, c.args.mark) moves; along = stands_more a c.args.mask _ (c.args.kind, c.args.mark) moves }

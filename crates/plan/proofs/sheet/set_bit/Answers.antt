use Rattle.std.proofs.Common.{ℕ, ◌/◌, ◌%◌, ◌<◌, get_or, set, ap, ◌∙◌, arith}
use lib.Bits.{bit_or}
use Rattle.std.proofs.lemmas.Nat.{one_shl}
use Rattle.plan.specs.Shut.{shut}
use Rattle.plan.proofs.Sheets.{shut_one}
use Rattle.plan.proofs.sheet.set_bit.Goals as goal

pub returns : goal.returns
returns c n =
    let xs = c.args.bytes.now in
    let p = c.args.number in
    let k : p % 8 < 8 = omega arith in
    ap (λ (b : ℕ). shut (set xs (p / 8) (bit_or (get_or xs (p / 8) 0) b)) n) (one_shl (p % 8) 8 k) ∙ shut_one xs p n (omega arith)

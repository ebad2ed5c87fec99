use Rattle.std.proofs.Common.{◌≡◌, ◌*◌, ◌%◌, ◌^◌, ◌<◌, length, arith, rules}
use Rattle.std.proofs.lemmas.Nat.{one_shl}
use Rattle.automaton.proofs.Masks.{admit_kind, admit_any}
use Rattle.automaton.proofs.admit.Goals as goal

pub returns-in-Kind : goal.returns-in-Kind
returns-in-Kind c =
    let one : (1 * 2 ^ c.args.p) % 2 ^ 32 ≡ 2 ^ c.args.p = one_shl c.args.p 32 (omega arith) in
    let lt : c.in-Kind.k < length c.args.fits.now = search rules in
    rw c.in-Kind.is (admit_kind c.args.fits.now c.args.any.now c.in-Kind.k c.args.p _ lt one)

pub returns-in-Any : goal.returns-in-Any
returns-in-Any c =
    let one : (1 * 2 ^ c.args.p) % 2 ^ 32 ≡ 2 ^ c.args.p = one_shl c.args.p 32 (omega arith) in
    rw c.in-Any.is (admit_any c.args.fits.now c.args.any.now c.args.p _ one)

use Rattle.std.proofs.Common.{◌≡◌, ℕ, ◌*◌, ◌%◌, ◌^◌, ◌<◌, ◌≢◌, ◌⊎◌, ◌↔◌, length, get_or, set, arith, get_or-set_other, get_or-set_same, rules}
use Rattle.std.proofs.lemmas.Nat.{one_shl}
use lib.Bits.{bit_or}
use Rattle.bits.specs.Bit.{Has}
use Rattle.bits.proofs.Bit.{has_zero}
use Rattle.model.specs.Records.{letter}
use Rattle.model.proofs.RecordLaws.{record_laws}
use Rattle.automaton.specs.declared.Automaton.{Automaton}
use Rattle.automaton.proofs.Masks.{mark_row}
use Rattle.automaton.proofs.Connect.{name_built, name_fits, name_marks}
use Rattle.automaton.proofs.Automaton.name.Goals as goal

-- the row of the mark with the new position
marks : (a : Automaton) (mark : ℕ) → a.count < 31 → mark < length a.marked
    → (k q : ℕ) → Has (get_or (set a.marked mark (bit_or (get_or a.marked mark 0) ((1 * 2 ^ a.count) % 2 ^ 32))) k 0) q ↔ (Has (get_or a.marked k 0) q ⊎ ((q ≡ a.count) × (k ≡ mark)))
marks a mark l lm = mark_row a.marked mark a.count ((1 * 2 ^ a.count) % 2 ^ 32) lm (one_shl a.count 32 (omega arith))

pub returns-clause-within : goal.returns-clause-within
returns-clause-within c =
    let lm : c.args.mark < length c.args.self.now.marked = search rules in
    record { fits = name_fits c.args.self.now c.requires.within c.args.label _ _ c.admit.ensures; marked = name_marks c.args.self.now c.requires.within c.args.mark _ (marks c.args.self.now c.args.mark c.requires.room lm) }

pub returns-clause-built : goal.returns-clause-built
returns-clause-built c =
    let p : ℕ = c.args.self.now.count in
    let lm : c.args.mark < length c.args.self.now.marked = search rules in
    let lf : p < length c.args.self.now.follow = search rules in
    name_built c.args.self.now _ c.requires.within c.args.label c.args.mark ((1 * 2 ^ p) % 2 ^ 32) (letter c.args.mark) (record_laws.number_again c.args.mark (omega arith)) (one_shl p 32 (omega arith))
    (λ q h. has_zero q (rw get_or-set_same at h))
    (λ s l. let ne : s ≢ p = omega arith in rw get_or-set_other)
    c.admit.ensures (marks c.args.self.now c.args.mark c.requires.room lm)

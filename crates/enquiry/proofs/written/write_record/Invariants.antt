use Rattle.std.proofs.Common.{◌≡◌}
use Rattle.enquiry.proofs.Wording.{written}
use Rattle.enquiry.proofs.written.write_record.Given as goal

abbrev pub invariant-loop-i : goal.invariant-loop-i
invariant-loop-i l = l.words ≡ written l.route l.initial.words l.i

use Rattle.plan.proofs.Sheets.{blank_open}
use Rattle.plan.proofs.sheet.no_bits.Goals as goal

pub returns : goal.returns
returns c n = blank_open n

use Rattle.pattern.proofs.Verdict.{one_tree, one_fault, unbroken_none}
use Rattle.pattern.proofs.verdicts_stand.Goals as goal

pub returns : goal.returns
returns c = record { tree = one_tree; verdict = (one_fault, unbroken_none) }

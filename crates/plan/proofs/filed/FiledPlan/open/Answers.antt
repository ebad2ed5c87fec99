use Rattle.std.proofs.lemmas.Result.{err_from_is_err_and}
use Rattle.plan.proofs.Described.{describes}
use Rattle.plan.proofs.FirstFaults.{first_fault, keeps_rules}
use Rattle.plan.proofs.filed.FiledPlan.open.Goals as goal

pub returns-clause-words : goal.returns-clause-words
returns-clause-words c = record { keeps = keeps_rules c.args.bytes.now c.in_ok-file.ensures.fault; describes = describes c.args.bytes.now _ _ c.copied.ensures }

pub returns-in_err-file-clause-words : goal.returns-in_err-file-clause-words
returns-in_err-file-clause-words c =
    let p = err_from_is_err_and c.from_residual.result c.from_residual.ensures.1 in
    rw (p.1, p.2) (first_fault c.args.bytes.now _ c.in_err-file.ensures.fault)

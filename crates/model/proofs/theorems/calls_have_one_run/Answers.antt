use Rattle.model.proofs.theorems.calls_have_one_run.Goals as goal
use Rattle.model.proofs.Total.{calls_answer}

pub returns : goal.returns
returns c = calls_answer

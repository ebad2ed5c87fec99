use Rattle.bridge.proofs.Agreed.{answers_agree}
use Rattle.bridge.proofs.answers_agree.Goals as goal

pub returns : goal.returns
returns c = answers_agree

use Rattle.bridge.proofs.Readings.{readings_agree_lem}
use Rattle.bridge.proofs.readings_agree.Goals as goal

pub returns : goal.returns
returns c = readings_agree_lem

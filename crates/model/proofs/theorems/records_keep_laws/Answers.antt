use Rattle.model.proofs.theorems.records_keep_laws.Goals as goal
use Rattle.model.proofs.RecordLaws.{record_laws}

pub returns : goal.returns
returns c = record_laws

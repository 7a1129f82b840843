use Rattle.schema_meta.proofs.OneAnswer.{one_reading}
use Rattle.schema_meta.proofs.laws.one_reading.Goals as goal

pub returns : goal.returns
returns c = one_reading

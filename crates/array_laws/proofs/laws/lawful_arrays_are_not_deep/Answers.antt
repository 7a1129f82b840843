use Rattle.array_laws.proofs.Depths.{depth-lawful}
use Rattle.array_laws.proofs.laws.lawful_arrays_are_not_deep.Goals as goal

pub returns : goal.returns
returns c = depth-lawful

use Rattle.array_laws.proofs.FlatTypes.{alone}
use Rattle.array_laws.proofs.types.flat_types_have_no_children.Goals as goal

pub returns : goal.returns
returns c = alone

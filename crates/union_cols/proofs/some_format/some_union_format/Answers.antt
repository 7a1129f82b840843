use Rattle.union_cols.proofs.SomeFormat.{some_format}
use Rattle.union_cols.proofs.some_format.some_union_format.Goals as goal

pub returns : goal.returns
returns c = some_format

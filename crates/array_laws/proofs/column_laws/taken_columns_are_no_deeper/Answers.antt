use Rattle.array_laws.proofs.ColumnDepths.{depth-packed, depth-picked, depth-unpacked}
use Rattle.array_laws.proofs.column_laws.taken_columns_are_no_deeper.Goals as goal

pub returns-clause-picked : goal.returns-clause-picked
returns-clause-picked c = depth-picked

pub returns-clause-packed : goal.returns-clause-packed
returns-clause-packed c = depth-packed

pub returns-clause-unpacked : goal.returns-clause-unpacked
returns-clause-unpacked c = depth-unpacked

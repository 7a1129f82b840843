use Rattle.std.proofs.Common.{◌≤◌, List, length}
use Rattle.data_types.specs.promise.Value.{Value}
use Rattle.data_types.specs.declared.kind.DataType.{DataType}
use Rattle.col_build.specs.Holding.{Holds}
use Rattle.col_build.proofs.tests.push_taken.Given as goal

-- no more values than items so far
abbrev pub invariant-loop-item : goal.invariant-loop-item
invariant-loop-item g l = (kind : DataType) × (values : List Value) × Holds l.builder kind values × (length values ≤ l.item-index)

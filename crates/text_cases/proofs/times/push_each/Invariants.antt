use Rattle.std.proofs.Common.{◌≡◌, ◌<◌, ◌++◌, ℕ, List, replicate}
use Rattle.std.specs.Prelude.{None}
use Rattle.data_types.specs.promise.Value.{Value}
use Rattle.data_types.specs.declared.kind.DataType.{DataType}
use Rattle.col_build.specs.Encoding.{push_fault}
use Rattle.col_build.specs.Holding.{Holds}
use Rattle.col_build.specs.Items.{value_of}
use Rattle.col_build.specs.Times.{AddsTimes}
use Rattle.text_cases.proofs.times.push_each.Given as goal

-- the item is behind what the column held as often as it was pushed, and was taken each time
abbrev pub invariant-loop-time : goal.invariant-loop-time
invariant-loop-time l =
    AddsTimes (value_of l.item) l._time l.initial.pushed l.pushed
    × ((kind : DataType) (values : List Value) → Holds l.initial.pushed kind values → (i : ℕ) → i < l._time
    → push_fault kind (values ++ replicate i (value_of l.item)) (value_of l.item) ≡ None)

use Rattle.std.proofs.Common.{◌≤◌, ◌+◌, List, [], ◌∷◌, length, length-append, arith}
use Rattle.data_types.specs.promise.Value.{Value}
use Rattle.data_types.specs.declared.kind.DataType.{DataType}
use Rattle.col_build.specs.Holding.{Adds, Holds}
use Rattle.col_build.specs.declared.builder.Builder.{Builder}
use Rattle.col_build.proofs.tests.push_taken.Goals as goal

-- one value more
added : (value : Value) (old new : Builder) (kind : DataType) (values : List Value) → Adds value old new → Holds old kind values
    → (k : DataType) × (vs : List Value) × Holds new k vs × (length vs ≤ length values + 1)
added value old new kind values adds holds = (kind, _, adds kind values holds, omega (arith, length-append values (value ∷ [])))

pub loop-item-preserved : goal.loop-item-preserved
loop-item-preserved g c =
    let was = c.loop-item.invariant in
    let now = added _ c.loop-item.builder c.push_one.new.builder was.0 was.1 c.push_one.ensures was.2 in
    (now.0, now.1, now.2, omega (arith, now.3, was.3))

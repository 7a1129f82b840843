use Rattle.std.proofs.Common.{◌≤◌, ◌+◌, List, [], ◌∷◌, ◌++◌, ℕ, length, length-append, arith}
use Rattle.data_types.specs.promise.Value.{Value}
use Rattle.data_types.specs.declared.kind.DataType.{DataType}
use Rattle.col_build.specs.Holding.{Adds, Holds}
use Rattle.col_build.specs.declared.builder.Builder.{Builder}
use Rattle.col_build.proofs.add_tests.take_round.Goals as goal

-- one value more in both
added : (value : Value) (p q a b : Builder) (kind : DataType) (values : List Value) (i : ℕ) → Adds value p q → Adds value a b → Holds p kind values
    → Holds a kind values → length values ≤ i
    → (vs : List Value) × Holds q kind vs × Holds b kind vs × (length vs ≤ i + 1)
added value p q a b kind values i pushes adds was here few = (
  values ++ value ∷ [],
  pushes kind values was,
  adds kind values here,
  omega (arith, few, length-append values (value ∷ [])),
)

pub loop-i-preserved : goal.loop-i-preserved
loop-i-preserved g c =
    let was = c.loop-i.invariant in
    added _ c.loop-i.pushed c.take_one.new.pushed c.loop-i.added c.take_one.new.added c.args.kind.now was.0 _ c.take_one.ensures.pushed
    c.take_one.ensures.added was.1 was.2 was.3

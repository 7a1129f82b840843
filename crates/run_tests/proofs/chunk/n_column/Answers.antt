use Rattle.std.proofs.Common.{◌≡◌}
use Rattle.std.proofs.lemmas.Result.{IfOk-weaker, on_ok_weaker}
use Rattle.arr_export.specs.ValueColumns.{tree_of}
use Rattle.run_tests.specs.Own.{n_values, numbers}
use Rattle.run_tests.proofs.chunk.n_column.Goals as goal

pub returns-clause-tree : goal.returns-clause-tree
returns-clause-tree c =
    IfOk-weaker c.built_column.result _ (λ array. array ≡ tree_of n_values) (λ array tree. tree numbers.kind numbers.values c.in_ok-numbers.ensures)
    c.built_column.ensures.tree

pub returns-clause-units : goal.returns-clause-units
returns-clause-units c =
    on_ok_weaker c.built_column.result (λ units. units numbers.kind numbers.values c.in_ok-numbers.ensures) c.built_column.ensures.units

pub returns-clause-blocks : goal.returns-clause-blocks
returns-clause-blocks c =
    on_ok_weaker c.built_column.result (λ blocks. blocks numbers.kind numbers.values c.in_ok-numbers.ensures) c.built_column.ensures.blocks

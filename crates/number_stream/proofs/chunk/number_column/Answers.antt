use Rattle.std.proofs.Common.{◌≡◌}
use Rattle.std.proofs.lemmas.Result.{IfOk-weaker, on_ok_weaker}
use Rattle.arr_export.specs.ValueColumns.{plain_tree}
use Rattle.number_stream.specs.Numbers.{numbers}
use Rattle.number_stream.proofs.chunk.number_column.Goals as goal

pub returns-clause-tree : goal.returns-clause-tree
returns-clause-tree c =
    IfOk-weaker c.built_column.result _ (λ array. array ≡ plain_tree numbers) (λ array tree. tree numbers.kind numbers.values c.in_ok-numbers.ensures)
    c.built_column.ensures.tree

pub returns-clause-units : goal.returns-clause-units
returns-clause-units c =
    on_ok_weaker c.built_column.result (λ units. units numbers.kind numbers.values c.in_ok-numbers.ensures) c.built_column.ensures.units

pub returns-clause-blocks : goal.returns-clause-blocks
returns-clause-blocks c =
    on_ok_weaker c.built_column.result (λ blocks. blocks numbers.kind numbers.values c.in_ok-numbers.ensures) c.built_column.ensures.blocks

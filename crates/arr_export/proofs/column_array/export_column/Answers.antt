use Rattle.std.proofs.Common.{◌≡◌, ◌∙◌, ap, arith, rules}
use Rattle.raw_array.specs.promise.Members.{Cost}
use Rattle.arr_export.specs.promise.ArrayTrees.{column_tree}
use Rattle.arr_export.proofs.Parts.{column-cost, column-made, dictionary-depth, few-buffers}
use Rattle.arr_export.proofs.column_array.export_column.Goals as goal

pub build-requires-clause-few_buffers : goal.build-requires-clause-few_buffers
build-requires-clause-few_buffers c =
    let holds = c.requires.holds in
    omega (arith, few-buffers c.args.column.buffers.items holds.0 holds.1 holds.2.is_encoded.buffers)

pub build-requires-clause-not_deep : goal.build-requires-clause-not_deep
build-requires-clause-not_deep c =
    let holds = c.requires.holds in
    let deep = dictionary-depth holds.0 holds.1 c.args.dictionary holds.2.indices in
    search (rules, deep)

pub returns-in-Ok-clause-cost : goal.returns-in-Ok-clause-cost
returns-in-Ok-clause-cost c =
    let kind = c.requires.holds.0 in
    let values = c.requires.holds.1 in
    let made = column-made c.args.column kind values c.new.result.items c.args.dictionary c.new.ensures.items c.requires.holds.2.is_encoded in
    let same : Cost c.in-Ok.tree ≡ Cost (column_tree kind values c.args.dictionary) = ap Cost c.in-Ok.ensures.tree ∙ ap Cost made in
    omega (arith, same, column-cost kind values c.args.dictionary)

pub returns-in-Ok-clause-tree : goal.returns-in-Ok-clause-tree
returns-in-Ok-clause-tree c kind values is =
    let made = column-made c.args.column kind values c.new.result.items c.args.dictionary c.new.ensures.items is in
    search (rules, made)

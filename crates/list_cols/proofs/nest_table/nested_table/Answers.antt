use Rattle.std.proofs.Common.{length, arith}
use Rattle.tree_model.specs.promise.TreeParts.{children_of}
use Rattle.data_types.specs.promise.TypedView.{typed_of}
use Rattle.layout_rules.specs.promise.Values.{rows_of}
use Rattle.list_cols.proofs.NestedWhole.{many-rows, rows-short}
use Rattle.list_cols.proofs.nest_table.nested_table.Goals as goal

pub returns-in-Ok-clause-short : goal.returns-in-Ok-clause-short
returns-in-Ok-clause-short c =
    let typed = typed_of c.args.typed.now in
    rows-short (length (children_of typed)) c.args.column (rows_of typed c.args.array.now)
    (omega (arith, many-rows typed c.args.array.now, c.row_count.ensures, c.if-row_count-gt-MOST_NAMED.false))

use Rattle.std.proofs.Common.{length}
use Rattle.data_types.specs.promise.TypedView.{typed_of}
use Rattle.layout_rules.specs.promise.Values.{rows_of}
use Rattle.list_cols.specs.promise.NestFaults.{nest_fault}
use Rattle.list_cols.specs.promise.Nested.{Nest}
use Rattle.tree_model.specs.promise.TreeParts.{children_of}
use Rattle.tree_top.proofs.NewRows.{new-refused}
use Rattle.tree_top.proofs.nested.nested_text.Goals as goal

pub returns-in-Err-clause-fault : goal.returns-in-Err-clause-fault
returns-in-Err-clause-fault c =
    let typed = typed_of c.args.typed.now in
    let rows = rows_of typed c.args.array in
    new-refused (Nest (length (children_of typed)) c.args.column rows) (nest_fault c.args.column typed rows) c.in-Err.fault c.from.result c.from.ensures
    c.in-Err.ensures.fault

use Rattle.data_types.specs.promise.TypedView.{typed_of}
use Rattle.layout_rules.specs.promise.Values.{rows_of}
use Rattle.list_cols.specs.promise.Faults.{explode_fault}
use Rattle.list_cols.specs.promise.Nested.{Explode}
use Rattle.tree_top.proofs.NewRows.{new-refused}
use Rattle.tree_top.proofs.lists.exploded_text.Goals as goal

pub returns-in-Err-clause-fault : goal.returns-in-Err-clause-fault
returns-in-Err-clause-fault c =
    let typed = typed_of c.args.typed.now in
    let rows = rows_of typed c.args.array in
    new-refused (Explode c.args.column rows) (explode_fault c.args.column typed rows) c.in-Err.fault c.from.result c.from.ensures c.in-Err.ensures.fault

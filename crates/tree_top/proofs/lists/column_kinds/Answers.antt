use Rattle.std.proofs.Common.{◌∙◌, sym}
use Rattle.data_types.specs.promise.TypedView.{typed_of}
use Rattle.tree_top.proofs.NewRows.{column-refused}
use Rattle.tree_top.proofs.lists.column_kinds.Goals as goal

pub returns-in-Some-clause-fault : goal.returns-in-Some-clause-fault
returns-in-Some-clause-fault c =
    column-refused c.args.schema.now c.args.array.now c.args.column (typed_of c.in_ok-typed.typed) c.in_ok-typed.ensures.found c.in_ok-typed.ensures.passed
    c.in-Some.fault (sym c.in-Some.is ∙ c.column_fault.ensures)

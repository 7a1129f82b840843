use Rattle.std.proofs.Common.{sym}
use Rattle.data_types.specs.promise.TypedView.{typed_of}
use Rattle.tree_check.proofs.Coming.{array-refused, report-comes, schema-refused}
use Rattle.tree_check.proofs.check.check_trees.Goals as goal

pub returns-in-Err-clause-fault : goal.returns-in-Err-clause-fault
returns-in-Err-clause-fault c =
    schema-refused c.args.schema.now c.args.array.now c.in-Err.fault c.from.result c.from.ensures c.in-Err.ensures.fault

pub returns-in-Ok-check_array-clause-report : goal.returns-in-Ok-check_array-clause-report
returns-in-Ok-check_array-clause-report c =
    report-comes c.args.schema.now c.args.array.now (typed_of c.in-Ok.typed) c.in-Ok.ensures.found c.in_ok-report-in-Ok-check_array.field-0.items
    (sym c.in-Ok-check_array.ensures.fault) c.in_ok-report-in-Ok-check_array.ensures

pub returns-clause-fault : goal.returns-clause-fault
returns-clause-fault c =
    array-refused c.args.schema.now c.args.array.now (typed_of c.in-Ok.typed) c.in-Ok.ensures.found c.in-Err-check_array.fault
    c.from-in-Err-check_array.result c.from-in-Err-check_array.ensures (sym c.in-Err-check_array.ensures.fault)

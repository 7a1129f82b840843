use Rattle.std.proofs.Common.{refl, sym}
use Rattle.data_types.specs.promise.TypedView.{typed_of}
use Rattle.tree_top.specs.AnswerParts.{rows_of_kinds}
use Rattle.tree_top.proofs.Coming.{array-refused, rows-come, schema-refused}
use Rattle.tree_top.proofs.rows.rows_text.Goals as goal

pub returns-in-Err-clause-fault : goal.returns-in-Err-clause-fault
returns-in-Err-clause-fault c =
    schema-refused (λ read. rows_of_kinds read c.args.array.now) (λ first. refl) c.args.schema.now c.in-Err.fault c.from.result c.from-in-Err.result c.from.ensures c.from-in-Err.ensures
    c.in-Err.ensures.fault

pub returns-in-Ok-check_array-clause-text : goal.returns-in-Ok-check_array-clause-text
returns-in-Ok-check_array-clause-text c =
    rows-come c.args.schema.now c.args.array.now (typed_of c.in-Ok.typed) c.in-Ok.ensures.found c.in_ok-items_text-in-Ok-check_array.field-0.items
    (sym c.in-Ok-check_array.ensures.fault) c.in_ok-items_text-in-Ok-check_array.ensures.text

pub returns-clause-fault : goal.returns-clause-fault
returns-clause-fault c =
    array-refused c.args.schema.now c.args.array.now (typed_of c.in-Ok.typed) c.in-Ok.ensures.found c.in-Err-check_array.fault
    c.from-in-Err-check_array.result c.from-in-Err-check_array-2.result c.from-in-Err-check_array.ensures c.from-in-Err-check_array-2.ensures
    (sym c.in-Err-check_array.ensures.fault)

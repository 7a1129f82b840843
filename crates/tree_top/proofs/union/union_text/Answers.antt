use Rattle.std.proofs.Common.{sym}
use Rattle.union_cols.specs.UnionAnswers.{union_of}
use Rattle.tree_top.proofs.Coming.{union-come, union-refused, union_schema-refused}
use Rattle.tree_top.proofs.union.union_text.Goals as goal

pub returns-in-Err-clause-fault : goal.returns-in-Err-clause-fault
returns-in-Err-clause-fault c =
    union_schema-refused c.args.schema.now c.args.array.now c.in-Err.fault c.from.result c.from.ensures c.in-Err.ensures.fault

pub returns-in-Ok-check_union-clause-text : goal.returns-in-Ok-check_union-clause-text
returns-in-Ok-check_union-clause-text c =
    let u = union_of c.in-Ok.typed in
    union-come c.args.schema.now c.args.array.now u c.in-Ok.ensures.found c.in_ok-measured_lines-in-Ok-check_union.field-0.items
    (sym c.in-Ok-check_union.ensures.fault)
    c.in_ok-measured_lines-in-Ok-check_union.ensures

pub returns-clause-fault : goal.returns-clause-fault
returns-clause-fault c =
    union-refused c.args.schema.now c.args.array.now (union_of c.in-Ok.typed) c.in-Ok.ensures.found c.in-Err-check_union.fault
    c.from-in-Err-check_union.result c.from-in-Err-check_union.ensures (sym c.in-Err-check_union.ensures.fault)

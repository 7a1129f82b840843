use Rattle.data_types.specs.promise.TypedView.{typed_of}
use Rattle.list_cols.proofs.TooLong.{short-enough, wide-fault}
use Rattle.list_cols.proofs.table.spread_table.Goals as goal

pub returns-in-Some-bytes_fault-clause-fault : goal.returns-in-Some-bytes_fault-clause-fault
returns-in-Some-bytes_fault-clause-fault c =
    let one = c.in-Some-bytes_fault.ensures.some in
    wide-fault c.args.column (typed_of c.args.typed.now) c.args.array.now one.0 c.in-Some-bytes_fault.fault one.1 one.2

pub returns-in-Ok-made_table-clause-short : goal.returns-in-Ok-made_table-clause-short
returns-in-Ok-made_table-clause-short c =
    short-enough c.args.column (typed_of c.args.typed.now) c.args.array.now c.in-Some.ensures.1 c.in_default-bytes_fault.ensures.none

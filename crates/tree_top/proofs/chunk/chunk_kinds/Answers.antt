use Rattle.std.proofs.Common.{sym}
use Rattle.data_types.specs.promise.TypedView.{typed_of}
use Rattle.tree_top.proofs.Chunks.{chunk-refused, chunk_schema-refused}
use Rattle.tree_top.proofs.chunk.chunk_kinds.Goals as goal

pub returns-in-Err-clause-fault : goal.returns-in-Err-clause-fault
returns-in-Err-clause-fault c =
    chunk_schema-refused c.args.schema.now c.args.array.now c.in-Err.fault c.from.result c.from-in-Err.result c.from.ensures c.from-in-Err.ensures
    c.in-Err.ensures.fault

pub returns-in-Err-check_chunk-clause-fault : goal.returns-in-Err-check_chunk-clause-fault
returns-in-Err-check_chunk-clause-fault c =
    chunk-refused c.args.schema.now c.args.array.now (typed_of c.in-Ok.typed) c.in-Ok.ensures.found c.in-Err-check_chunk.fault
    c.from-in-Err-check_chunk.result c.from-in-Err-check_chunk-2.result c.from-in-Err-check_chunk.ensures c.from-in-Err-check_chunk-2.ensures
    (sym c.in-Err-check_chunk.ensures.fault)

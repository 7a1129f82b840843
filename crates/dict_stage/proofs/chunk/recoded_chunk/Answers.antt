use Rattle.data_types.specs.promise.TypedView.{typed_of}
use Rattle.dict_stage.proofs.Chunks.{column-fits}
use Rattle.dict_stage.proofs.chunk.recoded_chunk.Goals as goal

pub replaced-requires-clause-column : goal.replaced-requires-clause-column
replaced-requires-clause-column c =
    column-fits c.args.dict c.args.kind.now (typed_of c.args.typed.now) c.args.chunk c.in-Ok.column c.args.place c.in-Ok.ensures.made.tree_is

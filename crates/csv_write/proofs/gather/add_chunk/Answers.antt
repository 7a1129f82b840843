use Rattle.data_types.specs.promise.TypedView.{typed_of}
use Rattle.arr_import.specs.Cols.{window_of}
use Rattle.csv_write.proofs.RunLemmas.{add-text}
use Rattle.csv_write.proofs.gather.add_chunk.Goals as goal

pub returns : goal.returns
returns c =
    add-text c.add.result c.args.text.now c.add.new.self (window_of c.of.result) (typed_of c.args.typed.now) c.args.chunk.now c.of.ensures.window c.add.ensures

use Rattle.std.proofs.Common.{◌++◌, ◌∙◌, map, ap}
use Rattle.data_types.specs.ColumnView.{column_of}
use Rattle.csv_model.specs.Text.{rows_text}
use Rattle.arr_import.specs.Cols.{window_of}
use Rattle.csv_write.specs.CsvTexts.{rows_in}
use Rattle.stream_tests.proofs.texts.written.Goals as goal

pub loop-chunk-preserved : goal.loop-chunk-preserved
loop-chunk-preserved g c =
    let columns = map column_of c.args.columns.now in
    let (written, has) = c.loop-chunk.invariant in (
      written ++ rows_text c.args.mark.now columns (rows_in (window_of c.of.result)),
      c.in-Ok-add.ensures c.args.mark.now columns written has
          (ap (λ w. w.typed) c.of.ensures.window ∙ c.requires.typed),
    )

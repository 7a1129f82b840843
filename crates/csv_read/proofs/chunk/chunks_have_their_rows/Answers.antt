use Rattle.std.proofs.Common.{◌∙◌, length}
use Rattle.csv_read.proofs.ChunkLaw.{all_values, columns-lawful, columns-long, columns-valued, rows-back, values-long}
use Rattle.data_types.specs.ColumnKinds.{types_of_columns}
use Rattle.csv_read.specs.Chunks.{column_arrays}
use Rattle.csv_read.proofs.chunk.chunks_have_their_rows.Goals as goal

pub returns-clause-chunk : goal.returns-clause-chunk
returns-clause-chunk c columns rows fits few =
    c.lawful_columns_make_a_chunk.ensures.chunk (types_of_columns columns) (column_arrays 0 columns rows) (length rows)
    (columns-lawful c.encoded_columns_are_lawful.ensures.lawful 0 columns rows fits) (columns-long 0 columns rows fits) few

pub returns-clause-rows : goal.returns-clause-rows
returns-clause-rows c columns rows fits widths =
    c.lawful_columns_make_a_chunk.ensures.values (types_of_columns columns) (column_arrays 0 columns rows) (all_values 0 columns rows) (length rows)
    (columns-valued c.encoded_columns_are_lawful.ensures.values 0 columns rows fits) (values-long 0 columns rows)
    ∙ rows-back columns rows widths

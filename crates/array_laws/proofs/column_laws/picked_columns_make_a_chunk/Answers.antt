use Rattle.array_laws.proofs.ColumnForm.{chunk-of, rows-picked}
use Rattle.array_laws.proofs.column_laws.picked_columns_make_a_chunk.Goals as goal

pub returns-clause-chunk : goal.returns-clause-chunk
returns-clause-chunk c types t picks live ok within = chunk-of types t live ok picks within

pub returns-clause-rows : goal.returns-clause-rows
returns-clause-rows c types t picks live ok within = rows-picked types t live ok picks within

use Rattle.array_laws.proofs.ColumnForm.{chunk-packed, rows-packed}
use Rattle.array_laws.proofs.column_laws.packed_columns_make_a_chunk.Goals as goal

pub returns-clause-chunk : goal.returns-clause-chunk
returns-clause-chunk c types t rest picks live ok a b = chunk-packed types t live ok rest picks a b

pub returns-clause-rows : goal.returns-clause-rows
returns-clause-rows c types t rest picks live ok a b = rows-packed types t live ok rest picks a b

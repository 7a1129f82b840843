use Rattle.arr_export.proofs.ValueTables.{value-chunk, value-rows}
use Rattle.arr_export.proofs.laws.columns_of_values_make_a_chunk.Goals as goal

pub returns-clause-chunk : goal.returns-clause-chunk
returns-clause-chunk c columns rows all few = value-chunk columns rows all few

pub returns-clause-rows : goal.returns-clause-rows
returns-clause-rows c columns rows all = value-rows columns rows all

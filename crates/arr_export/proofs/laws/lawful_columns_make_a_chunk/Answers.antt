use Rattle.arr_export.proofs.TableLaw.{table-chunk, table-rows, table-values}
use Rattle.arr_export.proofs.laws.lawful_columns_make_a_chunk.Goals as goal

pub returns-clause-chunk : goal.returns-clause-chunk
returns-clause-chunk c types columns rows are long few = table-chunk types columns rows are long few

pub returns-clause-rows : goal.returns-clause-rows
returns-clause-rows c types columns rows = table-rows types columns rows

pub returns-clause-values : goal.returns-clause-values
returns-clause-values c types columns values rows have long = table-values types columns values rows have long

use Rattle.list_cols.proofs.FlatRows.{table-chunk, table-rows}
use Rattle.list_cols.proofs.laws.flat_tables_have_their_rows.Goals as goal

pub returns-clause-chunk : goal.returns-clause-chunk
returns-clause-chunk c types rows fits few = table-chunk c.columns_of_values_make_a_chunk.ensures.chunk types rows fits few

pub returns-clause-rows : goal.returns-clause-rows
returns-clause-rows c types rows fits wide = table-rows c.columns_of_values_make_a_chunk.ensures.rows types rows fits wide

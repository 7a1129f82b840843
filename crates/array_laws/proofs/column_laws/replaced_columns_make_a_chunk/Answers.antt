use Rattle.array_laws.proofs.ReplacedColumn.{replaced-chunk, replaced-rows}
use Rattle.array_laws.proofs.column_laws.replaced_columns_make_a_chunk.Goals as goal

pub returns-clause-chunk : goal.returns-clause-chunk
returns-clause-chunk c types t place type column live ok one_live one_ok long = replaced-chunk types t place type column live ok one_live one_ok long

pub returns-clause-rows : goal.returns-clause-rows
returns-clause-rows c types t place type column live ok one_live one_ok lt same = replaced-rows types t place type column live ok one_live one_ok lt same

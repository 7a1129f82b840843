use Rattle.array_laws.proofs.PackedColumns.{unpack-chunk, unpack-rows}
use Rattle.array_laws.proofs.column_laws.unpacked_columns_make_a_chunk.Goals as goal

pub returns-clause-chunk : goal.returns-clause-chunk
returns-clause-chunk c types fields t place live inner ok lt is = unpack-chunk types fields t place live inner ok lt is

pub returns-clause-rows : goal.returns-clause-rows
returns-clause-rows c types fields t place live inner ok lt is all = unpack-rows types fields t place live inner ok lt is all

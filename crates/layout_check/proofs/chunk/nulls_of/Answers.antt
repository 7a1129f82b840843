use Rattle.std.proofs.Common.{arith}
use Rattle.layout_check.proofs.Chunks.{nulls}
use Rattle.layout_check.proofs.chunk.nulls_of.Goals as goal

pub overflow_cast-result : goal.overflow_cast-result
overflow_cast-result c = grind (arith, nulls)

pub returns-then-buffer_count-eq0 : goal.returns-then-buffer_count-eq0
returns-then-buffer_count-eq0 c = grind (arith, nulls)

pub returns-else-buffer_count-eq0 : goal.returns-else-buffer_count-eq0
returns-else-buffer_count-eq0 c = grind (arith, nulls)

use Rattle.std.proofs.Common.{arith}
use Rattle.raw_array.proofs.Buffers.{buffer_lists}
use Rattle.arr_move.proofs.columns.discard_buffers.Goals as goal

pub loop-buffer-preserved : goal.loop-buffer-preserved
loop-buffer-preserved c = grind (arith, buffer_lists)

pub unreachable-requires : goal.unreachable-requires
unreachable-requires c = grind (arith, buffer_lists)

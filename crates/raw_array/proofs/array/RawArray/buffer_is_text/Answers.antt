use Rattle.std.proofs.Common.{arith}
use Rattle.raw_array.proofs.Buffers.{buffer_lists}
use Rattle.raw_array.proofs.array.RawArray.buffer_is_text.Goals as goal

pub index-requires : goal.index-requires
index-requires c = grind (arith, buffer_lists)

pub returns : goal.returns
returns c = grind (arith, buffer_lists)

use Rattle.std.proofs.Common.{arith}
use Rattle.raw_array.proofs.Buffers.{buffer_lists}
use Rattle.raw_array.proofs.array.RawArray.n_buffers.Goals as goal

pub returns-clause-exact : goal.returns-clause-exact
returns-clause-exact c = grind (arith, buffer_lists)

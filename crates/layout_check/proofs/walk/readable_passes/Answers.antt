use Rattle.std.proofs.Common.{arith}
use Rattle.layout_check.proofs.Passes.{node}
use Rattle.layout_check.proofs.walk.readable_passes.Goals as goal

pub buffers_pass-requires : goal.buffers_pass-requires
buffers_pass-requires c = grind (arith, node)

pub layout_passes-requires : goal.layout_passes-requires
layout_passes-requires c = grind (arith, node)

pub returns-then-buffers_pass-clause-exact : goal.returns-then-buffers_pass-clause-exact
returns-then-buffers_pass-clause-exact c = grind (arith, node)

pub returns-then-buffers_pass-clause-buffers : goal.returns-then-buffers_pass-clause-buffers
returns-then-buffers_pass-clause-buffers c = grind (arith, node)

pub returns-then-buffers_pass-clause-rise : goal.returns-then-buffers_pass-clause-rise
returns-then-buffers_pass-clause-rise c = grind (arith, node)

pub returns-else-buffers_pass-clause-exact : goal.returns-else-buffers_pass-clause-exact
returns-else-buffers_pass-clause-exact c = grind (arith, node)

pub returns-else-buffers_pass-clause-buffers : goal.returns-else-buffers_pass-clause-buffers
returns-else-buffers_pass-clause-buffers c = grind (arith, node)

pub returns-else-buffers_pass-clause-rise : goal.returns-else-buffers_pass-clause-rise
returns-else-buffers_pass-clause-rise c = grind (arith, node)

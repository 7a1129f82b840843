use Rattle.std.proofs.Common.{arith}
use Rattle.col_build.proofs.Views.{made-count}
use Rattle.text_cases.proofs.columns.tell_column.Goals as goal

pub let_go_all-requires : goal.let_go_all-requires
let_go_all-requires c = omega (arith, made-count c.args.column.buffers.items _ c.requires.2.buffers, c.requires.3)

pub returns : goal.returns
returns c = omega (arith, made-count c.args.column.buffers.items _ c.requires.2.buffers, c.requires.3, c.let_go_all.ensures.units)

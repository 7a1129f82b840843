use Rattle.std.proofs.Common.{arith}
use Rattle.layout_rules.proofs.TreeLaws.{rows}
use Rattle.layout_check.proofs.chunk.count_rows.Goals as goal

pub returns : goal.returns
returns c = grind (arith, rows)

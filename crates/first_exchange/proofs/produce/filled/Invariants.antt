use Rattle.std.proofs.Common.{map, take}
use Rattle.col_build.specs.Holding.{Holds}
use Rattle.col_build.specs.Items.{value_of}
use Rattle.first_exchange.proofs.produce.filled.Given as goal

abbrev pub invariant-loop-item : goal.invariant-loop-item
invariant-loop-item l = Holds l.builder l.fn.kind (map value_of (take l.item-index l.items))

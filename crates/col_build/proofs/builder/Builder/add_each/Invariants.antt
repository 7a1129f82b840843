use Rattle.col_build.specs.Items.{value_of}
use Rattle.col_build.specs.Times.{AddsTimes}
use Rattle.col_build.proofs.builder.Builder.add_each.Given as goal

-- the item is behind what the column held, as often as it was added
abbrev pub invariant-loop-time : goal.invariant-loop-time
invariant-loop-time l = AddsTimes (value_of l.item) l._time l.initial.self l.self

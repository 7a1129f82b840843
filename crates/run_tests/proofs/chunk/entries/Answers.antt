use Rattle.std.proofs.Common.{[], ◌∷◌}
use Rattle.run_tests.proofs.Fitting.{takes-x, takes-y}
use Rattle.run_tests.specs.Own.{text, x}
use Rattle.run_tests.proofs.chunk.entries.Goals as goal

pub add-requires : goal.add-requires
add-requires c = record { takes = takes-x c.new-builder.result c.new-builder.ensures }

pub add-requires-2 : goal.add-requires-2
add-requires-2 c = record { takes = takes-y c.add.new.self (c.in_ok-add.ensures.added text [] c.new-builder.ensures) }

pub returns : goal.returns
returns c = c.in_ok-add-2.ensures.added text (x ∷ []) (c.in_ok-add.ensures.added text [] c.new-builder.ensures)

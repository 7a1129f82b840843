use Rattle.std.proofs.Common.{take}
use Rattle.col_build.specs.Holding.{Holds}
use Rattle.arr_import.specs.Cols.{window_of}
use Rattle.arr_import.specs.Window.{items_of}
use Rattle.dict_stage.proofs.column.own_items.Given as goal

-- the builder holds the items so far
abbrev pub invariant-loop-i : goal.invariant-loop-i
invariant-loop-i l = Holds l.builder l.kind (take l.i (items_of (window_of l.items)))

use Rattle.std.proofs.Common.{take}
use Rattle.std.specs.List.{flat_map}
use Rattle.arr_import.specs.Cols.{window_of}
use Rattle.arr_import.specs.Window.{item_at}
use Rattle.col_build.specs.Holding.{Holds}
use Rattle.layout_rules.specs.promise.Values.{each}
use Rattle.list_cols.specs.promise.Nested.{items_in}
use Rattle.list_cols.proofs.lists.list_items.Given as goal

-- the builder holds the items of the lists so far
abbrev pub invariant-loop-i : goal.invariant-loop-i
invariant-loop-i l = Holds l.builder l.kind (flat_map items_in (take l.i (each (item_at (window_of l.lists)) 0 (window_of l.lists).count)))

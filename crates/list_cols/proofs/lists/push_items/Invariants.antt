use Rattle.std.proofs.Common.{take}
use Rattle.arr_import.specs.Cols.{window_of}
use Rattle.arr_import.specs.Window.{items_of}
use Rattle.list_cols.specs.Listed.{AddsAll}
use Rattle.list_cols.proofs.lists.push_items.Given as goal

-- the items so far are behind what the builder held
abbrev pub invariant-loop-i : goal.invariant-loop-i
invariant-loop-i l = AddsAll (take l.i (items_of (window_of l.items))) l.initial.builder l.builder

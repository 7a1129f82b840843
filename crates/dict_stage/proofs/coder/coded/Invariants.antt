use Rattle.std.proofs.Common.{[], map, take}
use Rattle.col_build.specs.Holding.{Holds}
use Rattle.arr_import.specs.Cols.{window_of}
use Rattle.arr_import.specs.Window.{items_of}
use Rattle.dict_stage.specs.Indices.{index_type}
use Rattle.dict_stage.specs.Texts.{Codes, index_by, texts_after}
use Rattle.dict_stage.proofs.coder.coded.Given as goal

-- the distinct texts of the items so far, and the indices of the items
abbrev pub invariant-loop-i : goal.invariant-loop-i
invariant-loop-i l = record {
  codes : Codes l.coder l.kind (texts_after [] (take l.i (items_of (window_of l.items))));
  indices : Holds l.indices index_type (map (index_by (texts_after [] (take l.i (items_of (window_of l.items))))) (take l.i (items_of (window_of l.items))));
}

-- The chunks whose lines were gathered, as their rows.
use Rattle.std.specs.Prelude.{List, map}
use Rattle.data_types.specs.promise.Table.{Row}
use Rattle.data_types.specs.promise.TypedView.{typed_of}
use Rattle.layout_rules.specs.promise.Values.{rows_of}
use Rattle.tree_top.specs.declared.shown.Lines.{Lines}

-- the rows that were shown
abbrev pub shown_in : Lines → List Row
shown_in lines = rows_of (typed_of lines.typed.value) lines.array.value

abbrev pub tables_in : List Lines → List (List Row)
tables_in gathered = map shown_in gathered

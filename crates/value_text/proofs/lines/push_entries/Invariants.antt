use Rattle.std.proofs.Common.{◌≡◌, ◌++◌}
use Rattle.std.specs.List.{flat_map}
use Rattle.layout_rules.specs.promise.Values.{each, value_at}
use Rattle.arr_import.specs.Cols.{window_of}
use Rattle.data_types.specs.promise.ValueTexts.{value_line}
use Rattle.value_text.proofs.lines.push_entries.Given as goal

-- the lines so far
abbrev pub invariant-loop-i : goal.invariant-loop-i
invariant-loop-i l =
    l.text ≡ l.initial.text ++ flat_map value_line (each (value_at (window_of l.col).typed (window_of l.col).array) (window_of l.col).start l.i)

use Rattle.std.proofs.Common.{◌≡◌, ◌++◌}
use Rattle.layout_rules.specs.promise.Values.{each, value_at}
use Rattle.arr_import.specs.Cols.{window_of}
use Rattle.value_text.proofs.Parts.{parts}
use Rattle.value_text.proofs.value.push_plain_list.Given as goal

-- the items so far
abbrev pub invariant-loop-i : goal.invariant-loop-i
invariant-loop-i l = l.text ≡ l.initial.text ++ parts (each (value_at (window_of l.col).typed (window_of l.col).array) (window_of l.col).start l.i)

use Rattle.std.proofs.Common.{◌≡◌, ◌++◌, map, take}
use Rattle.arr_import.specs.Cols.{window_of}
use Rattle.arr_import.specs.Window.{item_at}
use Rattle.value_text.proofs.Parts.{parts}
use Rattle.value_text.proofs.table.push_fields.Given as goal

-- the fields so far
abbrev pub invariant-loop-k : goal.invariant-loop-k
invariant-loop-k l = l.text ≡ l.initial.text ++ parts (take l.k (map (λ f. item_at (window_of f.items) l.i) l.fields))

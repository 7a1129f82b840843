use Rattle.std.proofs.Common.{ℕ, List, take, map}
use Rattle.csv_write.specs.Lines.{HasFields, HasLines}
use Rattle.csv_write.proofs.column_form.write_names.Given as goal

-- the writer has the names of the columns so far
abbrev pub invariant-loop-column : goal.invariant-loop-column
invariant-loop-column l =
    (text : List ℕ) → HasLines l.initial.writer text → HasFields l.writer text (map (λ column. column.name) (take l.column-index l.columns))

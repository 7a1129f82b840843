-- What is asked for of a table.
use Rattle.std.specs.Prelude.{ℕ, List, []}
use Rattle.run_model.specs.promise.Answer.{Request}

-- no types and no stages are asked for, and batches of 1024 rows
abbrev pub asking : List ℕ → Request
asking mark = record { entries = []; stages = []; batch = 1024; mark = mark }

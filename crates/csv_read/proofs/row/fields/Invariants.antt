use Rattle.std.proofs.Common.{◌≡◌, take}
use Rattle.csv.specs.Records.{fields_of}
use Rattle.stage_plan.specs.PlanWords.{texts}
use Rattle.csv_read.proofs.row.fields.Given as goal

abbrev pub invariant-loop-place : goal.invariant-loop-place
invariant-loop-place l = texts l.fields.items ≡ take l.place (fields_of l.row)

use Rattle.std.proofs.Common.{ℕ}
use Rattle.csv.specs.Records.{fields_of}
use Rattle.csv_read.proofs.FieldsSoFar.{FieldsSoFar}
use Rattle.csv_read.proofs.field_push.push_texts.Given as goal

-- the columns so far hold the values of their fields, and the others are as they were
abbrev pub invariant-loop-j : goal.invariant-loop-j
invariant-loop-j l = (number : ℕ) → FieldsSoFar l.mark l.forms (fields_of l.row) number l.j l.initial.builders l.builders

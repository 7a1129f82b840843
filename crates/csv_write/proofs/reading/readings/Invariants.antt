use Rattle.std.proofs.Common.{take}
use Rattle.std.specs.List.{AllZip}
use Rattle.csv_write.specs.Readings.{Reads}
use Rattle.csv_write.proofs.reading.readings.Given as goal

-- the readings are those of the columns so far
abbrev pub invariant-loop-column : goal.invariant-loop-column
invariant-loop-column l = AllZip Reads l.readings.items (take l.column-index l.columns)

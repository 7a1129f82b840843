-- What contracts see of a run-end encoded array that is read in place.
use Rattle.raw_array.specs.promise.Members.{ArrayTree}
use Rattle.run_ends.specs.declared.column.RunCol.{RunCol}
use Rattle.run_ends.specs.promise.Runs.{RunTree}
use Rattle.run_ends.specs.RunAnswers.{runs_of}

-- its kinds
abbrev pub kinds_in : RunCol → RunTree
kinds_in col = runs_of col.typed.now

-- the array
abbrev pub array_in : RunCol → ArrayTree
array_in col = col.array.now

use Rattle.std.proofs.Common.{List}
use Rattle.schema_meta.specs.declared.pair.Pair.{Pair}
use Rattle.schema_meta.proofs.Loop.{ReadSoFar}
use Rattle.schema_meta.proofs.reading.walked.Given as goal

abbrev pub invariant-loop : goal.invariant-loop
invariant-loop l = (done : List Pair) × ReadSoFar l.bytes l.count l.at l.counter done

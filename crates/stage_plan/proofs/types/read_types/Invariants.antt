use Rattle.stage_plan.proofs.Loop.{ReadSoFar}
use Rattle.stage_plan.proofs.types.read_types.Given as goal

abbrev pub invariant-loop-part : goal.invariant-loop-part
invariant-loop-part l = ReadSoFar l.part-items l.part-index l.names.keys l.entries.items

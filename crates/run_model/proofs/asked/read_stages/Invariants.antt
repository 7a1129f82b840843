use Rattle.run_model.proofs.CommandLineStages.{ReadTo}
use Rattle.run_model.proofs.asked.read_stages.Given as goal

-- the stages so far are those of the texts before the place
abbrev pub invariant-loop-place : goal.invariant-loop-place
invariant-loop-place l = ReadTo l.texts l.place l.stages.items

use Rattle.std.proofs.Common.{◌≤◌, take}
use Rattle.std.specs.Io.KnownBytes.{Appends}
use Rattle.std.specs.List.{flat_map}
use Rattle.data_types.specs.WayTexts.{step_text}
use Rattle.run_model.proofs.tree_line.tell_steps.Given as goal

-- the sink took the steps so far
abbrev pub invariant-loop-step : goal.invariant-loop-step
invariant-loop-step g l = record {
  taken : Appends (g.E.Sink.taken l.initial.errs) (g.E.Sink.taken l.errs) (flat_map step_text (take l.step-index l.way));
  later : g.E.Sink.faults l.initial.errs ≤ g.E.Sink.faults l.errs;
}

use Rattle.std.proofs.Common.{◌≤◌, take}
use Rattle.std.specs.Io.KnownBytes.{Appends}
use Rattle.run_model.specs.Diagnostics.{joined}
use Rattle.run_model.proofs.diagnostics.say.Given as goal

-- the sink took the pieces so far
abbrev pub invariant-loop-piece : goal.invariant-loop-piece
invariant-loop-piece g l = record {
  taken : Appends (g.E.Sink.taken l.initial.errs) (g.E.Sink.taken l.errs) (joined (take l.piece-index l.pieces));
  later : g.E.Sink.faults l.initial.errs ≤ g.E.Sink.faults l.errs;
}

use Rattle.std.proofs.Common.{length}
use Rattle.data_types.specs.promise.TypedView.{typed_of}
use Rattle.layout_rules.specs.promise.Values.{rows_of}
use Rattle.fan_out.specs.Pieces.{GivesFirst}
use Rattle.fan_out.proofs.fan.in_turn.Given as goal

abbrev pub invariant-loop-worker : goal.invariant-loop-worker
invariant-loop-worker g l =
    let rows = rows_of (typed_of l.typed) l.chunk in
    GivesFirst (g.J.Job.gives l.job (typed_of l.typed) rows) (length rows) l.count l.worker l.outs.items
    × GivesFirst (g.J.Job.reads l.job l.chunk) (length rows) l.count l.worker l.outs.items

use Rattle.std.proofs.Common.{◌≡◌}
use Rattle.tree_model.specs.promise.TreeData.{Released}
use Rattle.stream_face.specs.Meaning.{meaning}
use Rattle.number_stream.proofs.total.take.Given as goal

abbrev pub invariant-loop : goal.invariant-loop
invariant-loop g l =
    let start = meaning g.S.ArrayStream.state l.fn.stream in
    let now = meaning g.S.ArrayStream.state l.stream in
    record {
      live : now.live ≡ start.live;
      held : now.held ≡ start.held;
      units : l.pass.units ≡ l.fn.pass.units;
      chunk : l.chunk ≡ Released;
    }

use Rattle.std.proofs.Common.{◌≡◌, List, length}
use Rattle.data_types.specs.promise.Table.{Column, Row}
use Rattle.tree_model.specs.promise.TreeData.{Released}
use Rattle.raw_array.specs.promise.Members.{ArrayTree}
use Rattle.stream_face.specs.Lawful.{LawfulTables}
use Rattle.stream_face.specs.Meaning.{meaning, raw_link}
use Rattle.stream_face.specs.Streams.{IsFresh}
use Rattle.stages.proofs.Runs.{Ran}
use Rattle.stages.proofs.Turning.{Goes}
use Rattle.stages.proofs.pull.pull.Given as goal

-- how far the calls of the stream below have come, that the same is still to be given, and that the step can be pushed the rest
abbrev pub invariant-chunks : goal.invariant-chunks
invariant-chunks g l =
    let start = meaning g.U.ArrayStream.state l.fn.up in
    let now = meaning g.U.ArrayStream.state l.up in
    let first = l.fn.step in
    record {
      ran : Ran start now (g.T.Tap.seen l.fn.tap) (g.T.Tap.seen l.tap) l.fn.pass l.pass;
      same : IsFresh start → g.S.ChunkStep.ahead first start.ending start.ahead ≡ g.S.ChunkStep.ahead l.step start.ending now.ahead;
      takes : IsFresh start → g.S.ChunkStep.takes l.step start.columns now.ahead;
      tables : IsFresh start → LawfulTables start.columns now.ahead;
      link : raw_link l.up ≡ raw_link l.fn.up;
      goes : IsFresh start → Goes (g.S.ChunkStep.takes l.step start.columns) (g.S.ChunkStep.ahead first start.ending)
          (g.S.ChunkStep.ahead l.step start.ending) start.ahead now.ahead;
      columns : g.S.ChunkStep.columns l.step ≡ g.S.ChunkStep.columns first;
      fits : (before : List Column) → ∥ g.S.ChunkStep.fits first before ∥₁ → ∥ g.S.ChunkStep.fits l.step before ∥₁;
      own_blocks : (rows : List Row) → g.S.ChunkStep.blocks l.step rows ≡ g.S.ChunkStep.blocks first rows;
      own_nodes : (rows : List Row) → g.S.ChunkStep.nodes l.step rows ≡ g.S.ChunkStep.nodes first rows;
      besides : (rows : List Row) (chunk : ArrayTree) → g.S.ChunkStep.gives l.step rows chunk → g.S.ChunkStep.gives first rows chunk;
      units : l.pass.units ≡ l.fn.pass.units;
      chunk : l.out ≡ Released;
    }

abbrev pub decreases-chunks : goal.decreases-chunks
decreases-chunks g l = length (meaning g.U.ArrayStream.state l.up).ahead

use Rattle.std.proofs.Common.{rules}
use Rattle.stage_kernels.proofs.SlicedChunks.{slice-pushes}
use Rattle.stage_kernels.proofs.SlicedStreams.{kept_columns}
use Rattle.stage_kernels.proofs.slice.SliceStepChunkStep.push.Goals as goal

pub returns-clause-pushed : goal.returns-clause-pushed
returns-clause-pushed g c = λ before rows more fits _ next.
    let old = c.args.self.now in
    let new = c.narrow.new.self in
    let call = c.narrow.ensures in
    slice-pushes before old.out old.skip old.keep new.skip new.keep c.args.chunk rows more _ c.args.pass.now c.narrow.new.pass c.narrow.result (record {
      chunk = c.windows_are_parts.ensures.chunk;
      rows = c.windows_are_parts.ensures.rows;
      cost = c.windows_keep_measures.ensures.cost;
      count = c.chunks_are_tables.ensures.rows;
      sliced = c.slices_are_windows.ensures.rows;
    }) (kept_columns old.out before fits) next call.part call.skip call.keep call.blocks call.nodes (search rules) (search rules)

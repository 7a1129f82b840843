use Rattle.std.proofs.Common.{rules}
use Rattle.stage_model.specs.promise.Typing.{no_column}
use Rattle.stage_kernels.proofs.UnpackedChunks.{made_of, unpack-gives}
use Rattle.stage_kernels.proofs.UnpackedStreams.{told}
use Rattle.stage_kernels.proofs.unpack.UnpackStepChunkStep.push.Goals as goal

pub unpack_column-requires-clause-chunk : goal.unpack_column-requires-clause-chunk
unpack_column-requires-clause-chunk g c =
    let s = c.args.self.now in
    let next = c.requires.next in
    let fit = told s.place s.out next.0 next.3 in
    record { columns = next.0; fields = fit.fields; ok = next.5.is.ok; inside = fit.inside; is_struct = fit.is_struct }

pub returns-in-Ok-clause-pushed : goal.returns-in-Ok-clause-pushed
returns-in-Ok-clause-pushed g c = λ before rows more fits _ next.
    let s = c.args.self.now in
    let chunk = c.args.chunk in
    let fit = told s.place s.out before fits in
    let law = c.columns_of_a_table.ensures in
    unpack-gives before s.out s.place chunk c.in-Ok.made rows more _ c.args.pass.now c.unpack_column.new.pass next fit
    (made_of s.place fit.fields before chunk next.is.ok c.lawful_structs_have_columns.ensures.children
    (law.unpack before no_column chunk s.place fit.fields next.is.ok fit.inside fit.is_struct)
    (law.unpack_rows before no_column chunk s.place fit.fields next.is.ok fit.inside fit.is_struct))
    c.in-Ok.ensures.tree c.in-Ok.ensures.cost c.in-Ok.ensures.blocks c.in-Ok.ensures.nodes (search rules)

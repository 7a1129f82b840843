use Rattle.std.proofs.Common.{map, subst, sym}
use Rattle.stream_face.specs.Lawful.{LawfulColumns, LawfulTables}
use Rattle.stage_kernels.specs.Picks.{picked_rows}
use Rattle.stage_kernels.proofs.PickedChunks.{kept-picked}
use Rattle.stage_kernels.proofs.PickedStreams.{picked_lawful, picked_tables}
use Rattle.stage_kernels.proofs.select.SelectStepChunkStep.lawful_facts.Goals as goal

pub returns-clause-columns : goal.returns-clause-columns
returns-clause-columns c = λ before fits lawful.
    let step = c.args.self.now in
    subst LawfulColumns (sym (kept-picked step.picks.items step.out before fits)) (picked_lawful step.picks.items step.out before fits lawful)

pub returns-clause-tables : goal.returns-clause-tables
returns-clause-tables c = λ _ before ending tables fits columns lawful.
    let step = c.args.self.now in
    subst (λ cs. LawfulTables cs (map (picked_rows step.picks.items) tables)) (sym (kept-picked step.picks.items step.out before fits))
    (picked_tables step.picks.items step.out before tables fits lawful)

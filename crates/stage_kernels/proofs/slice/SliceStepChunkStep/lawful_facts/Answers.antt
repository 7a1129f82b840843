use Rattle.stage_kernels.proofs.SlicedStreams.{slice_lawful, slice_tables}
use Rattle.stage_kernels.proofs.slice.SliceStepChunkStep.lawful_facts.Goals as goal

pub returns-clause-columns : goal.returns-clause-columns
returns-clause-columns c = slice_lawful c.args.self.now.out

pub returns-clause-tables : goal.returns-clause-tables
returns-clause-tables c = λ _ before ending tables fits columns lawful.
    slice_tables c.args.self.now.out c.args.self.now.skip c.args.self.now.keep before tables fits lawful

use Rattle.stage_kernels.proofs.UnpackedStreams.{unpacked_lawful, unpacked_tables}
use Rattle.stage_kernels.proofs.unpack.UnpackStepChunkStep.lawful_facts.Goals as goal

pub returns-clause-columns : goal.returns-clause-columns
returns-clause-columns c = λ before. unpacked_lawful c.args.self.now.place c.args.self.now.out before c.column_schemas_are_lawful.ensures

pub returns-clause-tables : goal.returns-clause-tables
returns-clause-tables c = λ _ before ending tables fits columns. unpacked_tables c.args.self.now.place c.args.self.now.out before tables fits

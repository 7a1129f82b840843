use Rattle.stage_kernels.proofs.PackedStreams.{packed_lawful, packed_tables}
use Rattle.stage_kernels.proofs.pack.PackStepChunkStep.lawful_facts.Goals as goal

pub returns-clause-columns : goal.returns-clause-columns
returns-clause-columns c =
    let s = c.args.self.now in
    packed_lawful s.rest.items s.picks.items s.out c.schema_is_small.ensures.small c.schema_is_small.ensures.not_deep

pub returns-clause-tables : goal.returns-clause-tables
returns-clause-tables c = λ _ before ending tables fits columns lawful.
    let s = c.args.self.now in
    packed_tables s.rest.items s.picks.items s.out before tables fits lawful

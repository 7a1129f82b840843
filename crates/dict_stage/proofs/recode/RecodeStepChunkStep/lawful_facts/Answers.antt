use Rattle.dict_stage.proofs.Streams.{columns-after, tables-are, told-of}
use Rattle.dict_stage.proofs.recode.RecodeStepChunkStep.lawful_facts.Goals as goal

pub returns-clause-columns : goal.returns-clause-columns
returns-clause-columns c = λ before fits lawful.
    let s = c.args.self.now in
    columns-after s.dict s.column s.out before (told-of s.dict s.column s.out before fits lawful) c.column_schemas_are_lawful.ensures
    c.schema_is_small.ensures.small c.schema_is_small.ensures.not_deep lawful

pub returns-clause-tables : goal.returns-clause-tables
returns-clause-tables c = λ _ before ending tables fits columns lawful.
    let s = c.args.self.now in
    tables-are s.dict s.column s.out before (told-of s.dict s.column s.out before fits columns) ending tables lawful

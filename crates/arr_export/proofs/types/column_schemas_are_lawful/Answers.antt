use Rattle.arr_export.proofs.SchemaLaw.{schema-typed}
use Rattle.arr_export.proofs.types.column_schemas_are_lawful.Goals as goal

pub returns : goal.returns
returns c = schema-typed c.spelling_reads_back.ensures.spelled

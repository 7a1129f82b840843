use Rattle.schema_check.proofs.SchemaValid.{kinds_valid}
use Rattle.schema_check.proofs.schema.kinds_are_valid.Goals as goal

pub returns : goal.returns
returns c = kinds_valid c.one_reading.ensures.alone c.spelling_reads_back.ensures.spelled c.spelled_is_valid.ensures

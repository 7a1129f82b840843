use Rattle.schema_check.proofs.SchemaOne.{one_answer}
use Rattle.schema_check.proofs.schema.one_schema_answer.Goals as goal

pub returns : goal.returns
returns c = one_answer c.one_reading.ensures.alone c.one_reading-2.ensures

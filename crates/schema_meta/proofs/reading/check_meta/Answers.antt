use Rattle.schema_meta.proofs.OneAnswer.{one_check}
use Rattle.schema_meta.proofs.reading.check_meta.Goals as goal

pub returns-clause-only : goal.returns-clause-only
returns-clause-only c = one_check c.args.bytes.now c.walked.result c.walked.ensures.found c.walked.ensures.fault

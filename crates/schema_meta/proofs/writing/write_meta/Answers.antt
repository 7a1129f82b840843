use Rattle.schema_meta.proofs.OneSpelling.{one_spelling}
use Rattle.schema_meta.proofs.writing.write_meta.Goals as goal

pub returns-clause-only : goal.returns-clause-only
returns-clause-only c = one_spelling c.args.pairs.now c.spelled.result c.spelled.ensures.spelled c.spelled.ensures.fault

use Rattle.tree_top.proofs.OneAnswer.{one-answer, some-answer}
use Rattle.tree_top.proofs.laws.one_answer.Goals as goal

pub returns-clause-some : goal.returns-clause-some
returns-clause-some c =
    some-answer c.one_reading.ensures.some c.some_union_format.ensures c.some_schema_answer.ensures.kinds c.some_schema_answer.ensures.metadata

pub returns-clause-alone : goal.returns-clause-alone
returns-clause-alone c = one-answer c.one_reading.ensures.alone c.one_schema_answer.ensures c.one_union_answer.ensures.schemas c.one_runs_answer.ensures

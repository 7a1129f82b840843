use Rattle.union_cols.proofs.Formats.{one_format}
use Rattle.union_cols.proofs.OneUnion.{one_union}
use Rattle.union_cols.proofs.laws.one_union_answer.Goals as goal

pub returns : goal.returns
returns c = record { formats = one_format; schemas = one_union c.one_root_answer.ensures.own c.one_root_answer.ensures.kids }

use Rattle.std.proofs.Common.{◌∙◌, length, ap, sym}
use Rattle.arr_export.proofs.Each.{length-each}
use Rattle.list_cols.proofs.runs.list_length.Goals as goal

pub returns-in-Some-clause-length : goal.returns-in-Some-clause-length
returns-in-Some-clause-length c = c.count_items.ensures.count ∙ sym (ap length c.in-Some.ensures.some ∙ length-each _ _ _)

pub returns-in-None-clause-length : goal.returns-in-None-clause-length
returns-in-None-clause-length c = sym (ap length c.in-None.ensures.none)

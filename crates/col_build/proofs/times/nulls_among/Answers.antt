use Rattle.std.proofs.Common.{◌∙◌, true, false, sym}
use Rattle.col_build.proofs.ManyTimes.{nulls-are}
use Rattle.col_build.proofs.times.nulls_among.Goals as goal

pub returns-then-null : goal.returns-then-null
returns-then-null c value is = sym (nulls-are c.args.times value true (is ∙ c.if-null.true))

pub returns-else-null : goal.returns-else-null
returns-else-null c value is = sym (nulls-are c.args.times value false (is ∙ c.if-null.false))

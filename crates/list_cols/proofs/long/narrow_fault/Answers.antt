use Rattle.std.proofs.Common.{subst, arith}
use Rattle.list_cols.specs.Listed.{HasTotal}
use Rattle.list_cols.proofs.Fitting.{narrow-passed, narrow-reached, narrow-untold}
use Rattle.list_cols.proofs.long.narrow_fault.Goals as goal

pub returns-then-total-gt-MOST_NAMED : goal.returns-then-total-gt-MOST_NAMED
returns-then-total-gt-MOST_NAMED c = λ bytes has. narrow-passed bytes c.in-Some.total (subst (HasTotal bytes) c.in-Some.is has) (omega arith)

pub returns-else-total-gt-MOST_NAMED : goal.returns-else-total-gt-MOST_NAMED
returns-else-total-gt-MOST_NAMED c = λ bytes has. narrow-reached bytes c.in-Some.total (subst (HasTotal bytes) c.in-Some.is has) (omega arith)

pub returns-in-None : goal.returns-in-None
returns-in-None c = λ bytes has. narrow-untold bytes (subst (HasTotal bytes) c.in-None.is has)

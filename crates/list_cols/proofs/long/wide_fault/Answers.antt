use Rattle.std.proofs.Common.{subst}
use Rattle.list_cols.specs.Listed.{HasTotal}
use Rattle.list_cols.proofs.Fitting.{wide-reached}
use Rattle.list_cols.proofs.long.wide_fault.Goals as goal

pub returns-in-Some : goal.returns-in-Some
returns-in-Some c = λ bytes has. wide-reached bytes c.in-Some.field-0 (subst (HasTotal bytes) c.in-Some.is has)

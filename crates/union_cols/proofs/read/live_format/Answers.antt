use Rattle.std.proofs.Common.{ℕ, List, subst}
use Rattle.union_cols.specs.promise.UnionFormats.{UnionFormatFault}
use Rattle.union_cols.proofs.read.live_format.Goals as goal

pub returns-in-Err-At-clause-fault : goal.returns-in-Err-At-clause-fault
returns-in-Err-At-clause-fault c =
    let fault = rw c.in-Err-At.field-0-is at c.in-Err-At.ensures.fault in
    (tt, (c.requires, subst (λ (text : List ℕ). UnionFormatFault text c.in-Err-At.place) c.format.ensures fault))

use Rattle.std.proofs.Common.{ℕ, Bool, sym, subst}
use Rattle.list_cols.specs.Listed.{HasTotal}
use Rattle.list_cols.specs.Reaching.{IsReached}
use Rattle.list_cols.proofs.long.reach_fault.Goals as goal

pub returns-then-wide : goal.returns-then-wide
returns-then-wide c =
    subst (λ (wide : Bool). (bytes : ℕ) → HasTotal bytes c.args.total → IsReached wide bytes c.wide_fault.result) (sym c.if-wide.true) c.wide_fault.ensures

pub returns-else-wide : goal.returns-else-wide
returns-else-wide c =
    subst (λ (wide : Bool). (bytes : ℕ) → HasTotal bytes c.args.total → IsReached wide bytes c.narrow_fault.result) (sym c.if-wide.false)
    c.narrow_fault.ensures

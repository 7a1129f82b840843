use Rattle.std.proofs.Common.{get_or, sym, subst}
use Rattle.std.specs.Prelude.{IfNone, IfSome}
use Rattle.data_types.specs.declared.kind.DataType.TheVariants as kinds
use Rattle.data_types.specs.promise.TypedView.{typed_of}
use Rattle.list_cols.specs.promise.Exploded.{exploded_kinds}
use Rattle.list_cols.specs.Reaching.{IsLong}
use Rattle.list_cols.specs.Spreading.{FitsAt, spread_values}
use Rattle.list_cols.proofs.long.column_fault.Goals as goal

pub returns-then-k-column-clause-none : goal.returns-then-k-column-clause-none
returns-then-k-column-clause-none c =
    subst (λ n. IfNone c.own_fault.result (FitsAt c.args.column (typed_of c.args.typed.now) c.args.array.now n)) (sym c.if-k-column.true)
    c.own_fault.ensures.none

pub returns-then-k-column-clause-some : goal.returns-then-k-column-clause-some
returns-then-k-column-clause-some c =
    let t = typed_of c.args.typed.now in
    let column = c.args.column in
    subst (λ n. IfSome c.own_fault.result (λ fault. IsLong (get_or (exploded_kinds column t) n kinds.Null) (spread_values column t c.args.array.now n) fault))
    (sym c.if-k-column.true) c.own_fault.ensures.some

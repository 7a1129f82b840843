use Rattle.std.proofs.Common.{get_or, sym, subst}
use Rattle.std.specs.Prelude.{IfOk}
use Rattle.col_build.specs.Holding.{Holds}
use Rattle.data_types.specs.declared.kind.DataType.TheVariants as kinds
use Rattle.data_types.specs.promise.TypedView.{typed_of}
use Rattle.list_cols.specs.promise.Exploded.{exploded_kinds}
use Rattle.list_cols.specs.Spreading.{FitsAt, spread_values}
use Rattle.list_cols.proofs.columns.column_builder.Goals as goal

pub own_builder-requires-clause-fits : goal.own_builder-requires-clause-fits
own_builder-requires-clause-fits c =
    subst (λ n. FitsAt c.args.column (typed_of c.args.typed.now) c.args.array.now n) c.if-k-column.true c.requires.fits

pub returns-then-k-column : goal.returns-then-k-column
returns-then-k-column c =
    let t = typed_of c.args.typed.now in
    let column = c.args.column in
    subst (λ n. IfOk c.own_builder.result (λ builder. Holds builder (get_or (exploded_kinds column t) n kinds.Null) (spread_values column t c.args.array.now n)))
    (sym c.if-k-column.true) c.own_builder.ensures

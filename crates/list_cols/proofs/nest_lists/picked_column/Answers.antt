use Rattle.std.proofs.Common.{◌∙◌, None, ap, arith}
use Rattle.data_types.specs.promise.Table.{Flat}
use Rattle.raw_array.specs.promise.Members.{Cost}
use Rattle.data_types.specs.promise.ColumnKinds.{type_of_kind}
use Rattle.data_types.specs.TypedView.{kind_of}
use Rattle.column_fill.proofs.ColumnCosts.{column-cost, few-blocks}
use Rattle.column_fill.specs.Gathered.{values_at}
use Rattle.list_cols.proofs.nest_lists.picked_column.Goals as goal

pub built_column-requires-clause-holds : goal.built_column-requires-clause-holds
built_column-requires-clause-holds c =
    let kind = kind_of c.args.kid.now in
    (kind, values_at (type_of_kind (Flat kind)) c.args.items.now c.args.start c.args.picks.now, c.in_ok-builder.ensures, tt)

pub returns-in-Ok : goal.returns-in-Ok
returns-in-Ok c =
    let kind = kind_of c.args.kid.now in
    let values = values_at (type_of_kind (Flat kind)) c.args.items.now c.args.start c.args.picks.now in
    let holds = c.in_ok-builder.ensures in
    let made = c.in-Ok.ensures.tree kind values holds in
    let units = c.in-Ok.ensures.units kind values holds in
    let cost = ap Cost made ∙ column-cost kind values None in
    record {
      made = made;
      units = omega (arith, units, cost);
      left = omega (arith, units, few-blocks kind values);
      least = omega (arith, units);
      blocks = omega (arith, units, c.in-Ok.ensures.blocks kind values holds);
      nodes = c.in-Ok.ensures.nodes;
    }

use Rattle.data_types.specs.promise.Table.{Flat}
use Rattle.data_types.specs.promise.ColumnKinds.{type_of_kind}
use Rattle.column_fill.specs.Gathered.{values_at}
use Rattle.stage_filter.proofs.MovedColumns.{can-gather, moved-flat}
use Rattle.stage_filter.proofs.column.filtered_values.Goals as goal

pub gathered-items-requires-clause-items : goal.gathered-items-requires-clause-items
gathered-items-requires-clause-items c = can-gather c.args.kind.now c.args.array c.args.start c.args.kept.now c.requires.items

pub built_column-requires-clause-holds : goal.built_column-requires-clause-holds
built_column-requires-clause-holds c =
    (c.args.kind.now, values_at (type_of_kind (Flat c.args.kind.now)) c.args.array c.args.start c.args.kept.now, c.in-Ok.ensures, tt)

pub returns-in-Ok-built_column-clause-moved : goal.returns-in-Ok-built_column-clause-moved
returns-in-Ok-built_column-clause-moved c =
    let kind = c.args.kind.now in
    let values = values_at (type_of_kind (Flat kind)) c.args.array c.args.start c.args.kept.now in
    let made = c.in-Ok-built_column.ensures in
    let holds = c.in-Ok.ensures in
    moved-flat kind c.args.array c.args.start c.args.kept.now _ c.args.pass.now c.end.new.pass c.built_column.new.pass c.requires.items
    (made.tree kind values holds) c.end.ensures.units c.end.ensures.blocks c.end.ensures.nodes
    (made.units kind values holds) (made.blocks kind values holds) made.nodes

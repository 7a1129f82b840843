use Rattle.std.proofs.Common.{get_or}
use Rattle.data_types.specs.declared.kind.DataType.TheVariants as kinds
use Rattle.data_types.specs.promise.TypedView.{typed_of}
use Rattle.list_cols.specs.promise.Exploded.{exploded_kinds}
use Rattle.list_cols.specs.Spreading.{spread_values}
use Rattle.list_cols.proofs.NewColumns.{made-blocks, made-cost, made-tree, made-units}
use Rattle.list_cols.proofs.columns.new_column.Goals as goal

pub returns-clause-made : goal.returns-clause-made
returns-clause-made c =
    let t = typed_of c.args.typed.now in
    made-tree c.built_column.result c.in_ok-builder.builder (get_or (exploded_kinds c.args.column t) c.args.k kinds.Null)
    (spread_values c.args.column t c.args.array.now c.args.k) c.in_ok-builder.ensures c.built_column.ensures.tree

pub returns-clause-cost : goal.returns-clause-cost
returns-clause-cost c =
    let t = typed_of c.args.typed.now in
    made-cost c.built_column.result c.in_ok-builder.builder (get_or (exploded_kinds c.args.column t) c.args.k kinds.Null)
    (spread_values c.args.column t c.args.array.now c.args.k) c.in_ok-builder.ensures c.built_column.ensures.tree

pub returns-clause-units : goal.returns-clause-units
returns-clause-units c =
    let t = typed_of c.args.typed.now in
    made-units c.built_column.result c.in_ok-builder.builder (get_or (exploded_kinds c.args.column t) c.args.k kinds.Null)
    (spread_values c.args.column t c.args.array.now c.args.k) c.built_column.new.pass.units c.args.pass.now.units c.in_ok-builder.ensures
    c.built_column.ensures.tree c.built_column.ensures.units c.built_column.ensures.units_back

pub returns-clause-blocks : goal.returns-clause-blocks
returns-clause-blocks c =
    let t = typed_of c.args.typed.now in
    made-blocks c.built_column.result c.in_ok-builder.builder (get_or (exploded_kinds c.args.column t) c.args.k kinds.Null)
    (spread_values c.args.column t c.args.array.now c.args.k) c.built_column.new.pass.blocks c.args.pass.now.blocks c.in_ok-builder.ensures
    c.built_column.ensures.blocks

use Rattle.std.proofs.Common.{map, rules, None}
use Rattle.data_types.specs.ColumnView.{column_of}
use Rattle.total_stage.specs.Totals.{number_value}
use Rattle.total_stage.proofs.HeldRow.{column-is, fits-at, hold-more, value-is}
use Rattle.total_stage.proofs.row.row_builders.Goals as goal

pub number_builder-requires : goal.number_builder-requires
number_builder-requires c =
    fits-at c.args.columns.now c.args.values.now c.loop-k.k c.index-columns-k.result None c.requires c.loop-k-test.true c.index-columns-k.is

pub loop-k-preserved : goal.loop-k-preserved
loop-k-preserved c =
    let columns = c.args.columns.now in
    let values = c.args.values.now in
    let k = c.loop-k.k in
    hold-more c.loop-k.builders.items c.push.new.self.items c.in_ok-number_builder.field-0 (map column_of columns) (map number_value values) k
    (column_of c.index-columns-k.result) _
    c.loop-k.invariant (search rules) (column-is columns k c.index-columns-k.result c.loop-k-test.true c.index-columns-k.is)
    (value-is columns values k None c.requires c.loop-k-test.true) c.in_ok-number_builder.ensures

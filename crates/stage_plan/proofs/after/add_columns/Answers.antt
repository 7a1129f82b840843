use Rattle.stage_plan.proofs.AfterColumns.{one-more}
use Rattle.stage_plan.proofs.after.add_columns.Goals as goal

pub loop-column-preserved : goal.loop-column-preserved
loop-column-preserved c =
    one-more c.args.columns.now c.args.after.now.items c.loop-column.after.items c.add.new.after.items c.loop-column.column-index c.column-item.result
    c.in_ok-clone_column.field-0 c.loop-column-test.true c.column-item.is c.in_ok-clone_column.ensures c.loop-column.invariant c.in_ok-add.ensures

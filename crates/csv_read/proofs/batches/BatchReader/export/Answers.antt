use Rattle.std.proofs.Common.{map}
use Rattle.data_types.specs.ColumnView.{column_of}
use Rattle.csv_read.proofs.EmptiedBuilders.{ready-spent, spent-by}
use Rattle.csv_read.proofs.batches.BatchReader.export.Goals as goal

pub invariant_of-self : goal.invariant_of-self
invariant_of-self g c =
    let inside = c.self.inside in
    let old = inside.body.builders.items in
    let new = c.export.new.self.builders.items in (
      c.self.invariant.0,
      c.self.invariant.1,
      rw c.export.ensures.forms c.self.invariant.2,
      c.self.invariant.3,
      ready-spent old new (map column_of inside.columns.items) c.self.invariant.4 (spent-by c.export.result old new c.export.ensures.emptied c.export.ensures.spent),
    )

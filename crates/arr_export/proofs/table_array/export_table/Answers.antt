use Rattle.std.proofs.Common.{arith}
use Rattle.layout_rules.specs.promise.Layout.{natural}
use Rattle.arr_export.proofs.Parts.{columns-depth}
use Rattle.arr_export.proofs.table_array.export_table.Goals as goal

pub build-requires-clause-not_deep : goal.build-requires-clause-not_deep
build-requires-clause-not_deep c = omega (arith, columns-depth (natural c.args.rows) c.args.columns.items c.requires.columns)

use Rattle.std.proofs.Common.{rules}
use Rattle.data_types.specs.declared.kind.ColKind.TheViews.{the_lemmas}
use Rattle.data_types.proofs.StructColumns.{row_is}
use Rattle.data_types.proofs.column_view.struct_of.Goals as goal

pub returns : goal.returns
returns c = search (rules, the_lemmas, row_is)

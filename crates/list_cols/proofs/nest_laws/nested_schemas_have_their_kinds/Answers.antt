use Rattle.std.proofs.Common.{false}
use Rattle.data_types.specs.declared.kind.DataType.TheVariants as kinds
use Rattle.list_cols.proofs.NestedTypes.{nested-typed}
use Rattle.list_cols.proofs.nest_laws.nested_schemas_have_their_kinds.Goals as goal

pub returns : goal.returns
returns c column schema typed t struct none flat = nested-typed (c.spelling_reads_back.ensures.spelled (kinds.List false) tt) column schema typed t struct none flat

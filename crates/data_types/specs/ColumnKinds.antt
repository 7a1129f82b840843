-- Names for the parts of the type of a table, which proofs use.
use Rattle.std.specs.Prelude.{List, map}
use Rattle.data_types.specs.promise.Table.{Column}
use Rattle.data_types.specs.declared.kind.DataType.TheVariants as kinds
use Rattle.tree_model.specs.promise.TreeData.{Live, trees, absent}
use Rattle.data_types.specs.promise.KindTrees.{KindTree}
use Rattle.data_types.specs.promise.ColumnKinds.{type_of_kind}

-- a struct of columns of these types
abbrev pub table_type : List KindTree → KindTree
table_type types = Live kinds.Struct (trees types) absent

abbrev pub type_of_column : Column → KindTree
type_of_column column = type_of_kind column.kind

abbrev pub types_of_columns : List Column → List KindTree
types_of_columns columns = map type_of_column columns

-- The types of columns, and of a table of them, as the schema of a table names them.
use Rattle.std.specs.Prelude.{true, List, map}
use Rattle.data_types.specs.promise.Table.{Column, Kind, Flat, Dict, Columns, Members, no_members, more_members}
use Rattle.data_types.specs.declared.kind.DataType.{DataType}
use Rattle.data_types.specs.declared.kind.DataType.TheVariants as kinds
use Rattle.tree_model.specs.promise.TreeData.{Live, Trees, no_trees, more_trees, trees, absent, present}
use Rattle.data_types.specs.promise.KindTrees.{KindTree}

abbrev mutual
  -- values of a type; indices of 32 bits into a dictionary of values; or a struct of columns
  pub type_of_kind : Kind → KindTree
  type_of_kind (Flat kind) = Live kind no_trees absent
  type_of_kind (Dict kind) = Live (kinds.Int 32 true) no_trees (present (Live kind no_trees absent))
  type_of_kind (Columns members) = Live kinds.Struct (types_of_members members) absent

  pub types_of_members : Members → Trees DataType
  types_of_members no_members = no_trees
  types_of_members (more_members name kind rest) = more_trees (type_of_kind kind) (types_of_members rest)

-- the type of a table of these columns, a struct
abbrev pub type_of_columns : List Column → KindTree
type_of_columns columns = Live kinds.Struct (trees (map (λ column. type_of_kind column.kind) columns)) absent

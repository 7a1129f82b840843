-- The schemas of the columns that the code keeps.
use Rattle.std.specs.Prelude.{List, map, All}
use Rattle.data_types.specs.declared.kind.ColumnType.{ColumnType}
use Rattle.data_types.specs.ColumnView.{kind_of}
use Rattle.tree_model.specs.promise.TreeData.{Trees, trees}
use Rattle.raw_schema.specs.promise.Members.{SchemaMembers, SchemaTree}
use Rattle.schema_check.specs.promise.ColumnSchema.{column_schema}
use Rattle.schema_check.specs.ColumnSchema.{KindsOk}

abbrev pub code_schema : ColumnType → SchemaTree
code_schema c = column_schema c.name (kind_of c.kind)

abbrev pub code_schemas : List ColumnType → Trees SchemaMembers
code_schemas columns = trees (map code_schema columns)

abbrev pub ColumnsOk : List ColumnType → Type 0
ColumnsOk columns = All (λ c. KindsOk (kind_of c.kind)) columns

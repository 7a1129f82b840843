-- What is handed on.
pub use Rattle.data_types.specs.ColumnForms.{KindsOk, MembersOk}
pub use Rattle.schema_check.specs.promise.ColumnSchema.{SchemaOf, column_schema, member_schemas, node, nullable, struct_format, values_schema}
use Rattle.std.specs.Prelude.{ℕ, List, codes}
use Rattle.data_types.specs.promise.Table.{Column}
use Rattle.raw_schema.specs.promise.Members.{SchemaTree}

-- the format of a dictionary's indices, which have 32 bits
abbrev pub index_format : List ℕ
index_format = codes "i"

abbrev pub schema_of_column : Column → SchemaTree
schema_of_column c = column_schema c.name c.kind

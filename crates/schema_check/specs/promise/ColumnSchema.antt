-- The schema of columns ("The Arrow C Data Interface", "The ArrowSchema structure").
use Rattle.std.specs.Prelude.{ℕ, ℤ, pos, List, [], map, codes, Option, None, Some}
use Rattle.data_types.specs.declared.kind.DataType.{DataType}
-- the numbers of a column's types are in their ranges
use Rattle.fmt_string.specs.promise.Spelling.{spelling_of}
use Rattle.data_types.specs.promise.Table.{Column, Kind, Flat, Dict, Columns, Members, no_members, more_members}
use Rattle.tree_model.specs.promise.TreeData.{Live, Trees, no_trees, more_trees, MaybeTree, absent, present, trees}
use Rattle.raw_schema.specs.promise.Members.{SchemaMembers, SchemaTree}

-- the flag of columns that may have nulls ("The ArrowSchema structure", "ARROW_FLAG_NULLABLE")
abbrev pub nullable : ℤ
nullable = pos 2

-- the format of structs
abbrev pub struct_format : List ℕ
struct_format = codes "+s"

-- a node without metadata
abbrev pub node : List ℕ → Option (List ℕ) → ℤ → Trees SchemaMembers → MaybeTree SchemaMembers → SchemaTree
node format name flags children dictionary = Live (record { format = format; name = name; metadata = None; flags = flags }) children dictionary

-- values of a type, whose format is its canonical spelling
abbrev pub values_schema : Option (List ℕ) → DataType → SchemaTree
values_schema name kind = node (spelling_of kind) name nullable no_trees absent

abbrev mutual
  -- the schema of a column: its values; indices of 32 bits and, without a name, a dictionary of
  -- values; or a struct of columns
  pub column_schema : List ℕ → Kind → SchemaTree
  column_schema name (Flat kind) = values_schema (Some name) kind
  column_schema name (Dict kind) = node (codes "i") (Some name) nullable no_trees (present (values_schema None kind))
  column_schema name (Columns members) = node struct_format (Some name) nullable (member_schemas members) absent

  pub member_schemas : Members → Trees SchemaMembers
  member_schemas no_members = no_trees
  member_schemas (more_members name kind rest) = more_trees (column_schema name kind) (member_schemas rest)

-- the schema of a table: a struct of its columns, which has an empty name and is never null
abbrev pub SchemaOf : List Column → SchemaTree
SchemaOf columns = node struct_format (Some []) (pos 0) (trees (map (λ c. column_schema c.name c.kind) columns)) absent

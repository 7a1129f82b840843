-- The schema of a chunk of which the lists in one column are spread out: the field of that column is replaced.
use Rattle.std.specs.Prelude.{◌≡◌, ◌<◌, ℕ, List, length, Option, None}
use Rattle.tree_model.specs.promise.TreeParts.{IsLive, child_at, children_of, dictionary_of}
use Rattle.tree_model.specs.promise.TreeData.{Live, no_trees, absent}
use Rattle.tree_model.specs.Tree.{with_child}
use Rattle.raw_schema.specs.promise.Members.{SchemaTree, members_of}
use Rattle.schema_check.specs.promise.ColumnSchema.{nullable}

-- a column that may have nulls under another one's name: its format and its metadata stay
abbrev pub renamed_field : Option (List ℕ) → SchemaTree → SchemaTree
renamed_field name field =
    Live (record { format = (members_of field).format; name = name; metadata = (members_of field).metadata; flags = nullable }) no_trees absent

-- the items of a list as a column under the list's name, whose own metadata isn't kept
abbrev pub item_field : SchemaTree → SchemaTree
item_field list = renamed_field (members_of list).name (child_at list 0)

-- all other columns' nodes stay as they are, and so does the top
abbrev pub exploded_schema : ℕ → SchemaTree → SchemaTree
exploded_schema column schema = with_child schema column (item_field (child_at schema column))

-- a column of the schema is a list, and its items' field is there
pub record HasList (schema : SchemaTree) (column : ℕ) : Type 0 where
  pub live : IsLive schema
  pub no_dictionary : dictionary_of schema ≡ None
  pub inside : column < length (children_of schema)
  pub list : IsLive (child_at schema column)
  pub item : IsLive (child_at (child_at schema column) 0)

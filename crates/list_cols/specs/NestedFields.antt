-- The schema of a chunk of which the rows are grouped by a column: each other field becomes the item of a list.
use Rattle.std.specs.Prelude.{ℕ, ◌==◌, if◌then◌else◌, List, [], ◌∷◌, codes, length, None, Some}
use Rattle.tree_model.specs.promise.TreeData.{Released, Live, absent, trees}
use Rattle.tree_model.specs.promise.TreeParts.{child_at, children_of}
use Rattle.arr_move.specs.TreeActs.{with_children}
use Rattle.raw_schema.specs.promise.Members.{SchemaTree, members_of}
use Rattle.schema_check.specs.promise.ColumnSchema.{nullable}
use Rattle.layout_rules.specs.promise.Values.{each}
use Rattle.list_cols.specs.Fields.{renamed_field}

-- lists of a field's values, with offsets of 32 bits ("The Arrow C Data Interface", "Data type description -- format strings")
abbrev pub list_format : List ℕ
list_format = codes "+l"

-- the name of a list's only child
abbrev pub item_name : List ℕ
item_name = codes "item"

-- a list under the field's name, whose items are the field's values: the format and the metadata go with them
abbrev pub list_field : SchemaTree → SchemaTree
list_field field =
    Live (record { format = list_format; name = (members_of field).name; metadata = None; flags = nullable }) (trees (renamed_field (Some item_name) field ∷ []))
    absent

abbrev pub nested_field : ℕ → SchemaTree → ℕ → SchemaTree
nested_field column schema k = if k == column then child_at schema k else list_field (child_at schema k)

-- what is in a field's place before the old one moves into it: a list over the field, and nothing for the column's own
abbrev pub new_field : ℕ → SchemaTree → ℕ → SchemaTree
new_field column schema k = if k == column then Released else list_field (child_at schema k)

-- the column's own node stays as it is, and so does the top
abbrev pub nested_schema : ℕ → SchemaTree → SchemaTree
nested_schema column schema = with_children schema (each (nested_field column schema) 0 (length (children_of schema)))

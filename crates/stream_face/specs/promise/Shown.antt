-- What a tap is shown of the chunks of a run.
use Rattle.std.specs.Prelude.{◌==◌, ◌++◌, ℕ, if◌then◌else◌, List, [], ◌∷◌, map, Option, Some, None}
use Rattle.data_types.specs.promise.Table.{Column, Row}
use Rattle.tree_model.specs.promise.TreeData.{Released, Live, Trees, no_trees, more_trees, MaybeTree, absent, present}
use Rattle.raw_array.specs.promise.Members.{ArrayTree}
use Rattle.raw_schema.specs.promise.Members.{SchemaMembers, SchemaTree}
use Rattle.data_types.specs.promise.KindTrees.{KindTree}
use Rattle.layout_rules.specs.promise.Values.{rows_of}
use Rattle.data_types.specs.promise.ColumnKinds.{type_of_columns}
use Rattle.schema_check.specs.promise.ColumnSchema.{SchemaOf}

abbrev mutual
  -- the names of a schema's nodes, at all depths: a node's, those of its children, those of its dictionary
  pub names_of : SchemaTree → List (Option (List ℕ))
  names_of Released = []
  names_of (Live members children dictionary) = members.name ∷ names_of_all children ++ names_of_maybe dictionary

  pub names_of_all : Trees SchemaMembers → List (Option (List ℕ))
  names_of_all no_trees = []
  names_of_all (more_trees t ts) = names_of t ++ names_of_all ts

  pub names_of_maybe : MaybeTree SchemaMembers → List (Option (List ℕ))
  names_of_maybe absent = []
  names_of_maybe (present t) = names_of t

-- a chunk that is shown: its names, its kinds and its rows
pub record Shown : Type 0 where
  pub names : List (Option (List ℕ))
  pub kinds : KindTree
  pub rows : List Row

-- the number of the link, and the chunk that it showed
pub record Seen : Type 0 where
  pub link : ℕ
  pub shown : Shown

-- a chunk with its schema and its kinds, as it is shown
abbrev pub shown_of : SchemaTree → KindTree → ArrayTree → Shown
shown_of schema kinds chunk = record { names = names_of schema; kinds = kinds; rows = rows_of kinds chunk }

abbrev pub seen_of : ℕ → SchemaTree → KindTree → ArrayTree → Seen
seen_of link schema kinds chunk = record { link = link; shown = shown_of schema kinds chunk }

-- a table of these columns, as it is shown
abbrev pub shown_table : List Column → List Row → Shown
shown_table columns rows = record { names = names_of (SchemaOf columns); kinds = type_of_columns columns; rows = rows }

abbrev pub shown_tables : List Column → List (List Row) → List Shown
shown_tables columns = map (shown_table columns)

-- what was seen of one link
abbrev pub of_link : ℕ → List Seen → List Shown
of_link link [] = []
of_link link (seen ∷ more) = if seen.link == link then seen.shown ∷ of_link link more else of_link link more

-- the rows of tables that are shown, and of those that were seen of one link
abbrev pub rows_shown : List Shown → List (List Row)
rows_shown = map (λ (table : Shown). table.rows)

abbrev pub rows_of_link : ℕ → List Seen → List (List Row)
rows_of_link link seen = rows_shown (of_link link seen)

-- what a tap has seen, where it states it, after it was shown more
abbrev pub grown : Option (List Seen) → List Seen → Option (List Seen)
grown None more = None
grown (Some before) more = Some (before ++ more)

-- The nodes and the levels of the schema of columns.
use Rattle.std.proofs.Common.{arith, ◌≡◌, ◌≤◌, ◌+◌, ◌*◌, ℕ, List, [], ◌∷◌, map, refl}
use Rattle.std.specs.List.{sum_by}
use Rattle.std.proofs.lemmas.List.Sums.{sum_by-cons}
use Rattle.data_types.specs.promise.Table.{Column, Kind, Flat, Dict, Columns, Members, no_members, more_members}
use Rattle.tree_model.specs.promise.TreeData.{trees}
use Rattle.tree_model.specs.Tree.{Depth, depth_of_all}
use Rattle.tree_model.specs.promise.TreeCost.{Nodes}
use Rattle.raw_schema.specs.Members.{nodes_of_all}
use Rattle.schema_check.specs.promise.ColumnSchema.{SchemaOf, column_schema, member_schemas}
use Rattle.schema_check.specs.ColumnSchema.{schema_of_column}
use Rattle.stage_model.specs.promise.Traffic.{Made, kind_nodes, member_nodes, table_nodes}
use Rattle.stream_face.specs.Lawful.{column_leaves, leaves, member_leaves}
use Rattle.stages.specs.Structs.{column_structs, member_structs, structs}

-- ---- counted

mutual
  kind-counted : (name : List ℕ) (kind : Kind) → Nodes (column_schema name kind) ≡ kind_nodes Made kind
  kind-counted name (Flat type) = refl
  kind-counted name (Dict type) = refl
  kind-counted name (Columns fields) = let e = members-counted fields in omega (arith, e)

  members-counted : (fields : Members) → nodes_of_all (member_schemas fields) ≡ member_nodes Made fields
  members-counted no_members = refl
  members-counted (more_members name kind rest) = let a = kind-counted name kind in let b = members-counted rest in omega (arith, a, b)

columns-counted : (columns : List Column) → nodes_of_all (trees (map schema_of_column columns)) ≡ sum_by (λ c. kind_nodes Made c.kind) columns
columns-counted [] = refl
columns-counted (c ∷ cs) =
    let a = kind-counted c.name c.kind in
    let b = columns-counted cs in
    let sum = sum_by-cons (λ (d : Column). kind_nodes Made d.kind) c cs in
    omega (arith, a, b, sum)

pub schema-counted : (columns : List Column) → Nodes (SchemaOf columns) ≡ table_nodes Made columns
schema-counted columns = let e = columns-counted columns in omega (arith, e)

-- ---- few

mutual
  kind-few : (name : List ℕ) (kind : Kind) → Nodes (column_schema name kind) ≤ 2 * leaves kind + structs kind
  kind-few name (Flat type) = omega arith
  kind-few name (Dict type) = omega arith
  kind-few name (Columns fields) = let e = members-few fields in omega (arith, e)

  members-few : (fields : Members) → nodes_of_all (member_schemas fields) ≤ 2 * member_leaves fields + member_structs fields
  members-few no_members = omega arith
  members-few (more_members name kind rest) = let a = kind-few name kind in let b = members-few rest in omega (arith, a, b)

columns-few : (columns : List Column) → nodes_of_all (trees (map schema_of_column columns)) ≤ 2 * column_leaves columns + column_structs columns
columns-few [] = omega arith
columns-few (c ∷ cs) = let a = kind-few c.name c.kind in let b = columns-few cs in omega (arith, a, b)

pub schema-few : (columns : List Column) → Nodes (SchemaOf columns) ≤ 1 + 2 * column_leaves columns + column_structs columns
schema-few columns = let e = columns-few columns in omega (arith, e)

-- ---- not deep

mutual
  kind-flat : (name : List ℕ) (kind : Kind) → Depth (column_schema name kind) ≤ 2 + structs kind
  kind-flat name (Flat type) = omega arith
  kind-flat name (Dict type) = omega arith
  kind-flat name (Columns fields) = let e = members-flat fields in omega (arith, e)

  members-flat : (fields : Members) → depth_of_all (member_schemas fields) ≤ 2 + member_structs fields
  members-flat no_members = omega arith
  members-flat (more_members name kind rest) = let a = kind-flat name kind in let b = members-flat rest in omega (arith, a, b)

columns-flat : (columns : List Column) → depth_of_all (trees (map schema_of_column columns)) ≤ 2 + column_structs columns
columns-flat [] = omega arith
columns-flat (c ∷ cs) = let a = kind-flat c.name c.kind in let b = columns-flat cs in omega (arith, a, b)

pub schema-flat : (columns : List Column) → Depth (SchemaOf columns) ≤ 3 + column_structs columns
schema-flat columns = let e = columns-flat columns in omega (arith, e)

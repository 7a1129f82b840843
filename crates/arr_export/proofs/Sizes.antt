-- The structures and the levels of the schema of columns.
use Rattle.std.proofs.Common.{◌≡◌, ◌+◌, ◌≤◌, ℕ, zero, suc, List, [], ◌∷◌, length, map, ap, arith}
use Rattle.data_types.specs.promise.Table.{Column, Kind, Flat, Dict, Columns, Members, no_members, more_members}
use Rattle.tree_model.specs.promise.TreeData.{trees}
use Rattle.tree_model.specs.Tree.{Depth, depth_of_all}
use Rattle.tree_model.specs.promise.TreeCost.{Nodes}
use Rattle.raw_schema.specs.Members.{nodes_of_all}
use Rattle.schema_check.specs.promise.ColumnSchema.{SchemaOf, column_schema, member_schemas}
use Rattle.schema_check.specs.ColumnSchema.{schema_of_column}
use Rattle.arr_export.specs.SchemaSize.{AreFlat, nodes_of_columns, nodes_of_kind, nodes_of_members}

mutual
  kind-nodes : (name : List ℕ) (kind : Kind) → Nodes (column_schema name kind) ≡ nodes_of_kind kind
  kind-nodes name (Flat d) = omega arith
  kind-nodes name (Dict d) = omega arith
  kind-nodes name (Columns ms) = omega (arith, member-nodes ms)

  member-nodes : (ms : Members) → nodes_of_all (member_schemas ms) ≡ nodes_of_members ms
  member-nodes no_members = omega arith
  member-nodes (more_members name kind rest) = omega (arith, kind-nodes name kind, member-nodes rest)

all-nodes : (columns : List Column) → nodes_of_all (trees (map schema_of_column columns)) ≡ nodes_of_columns columns
all-nodes [] = omega arith
all-nodes (c ∷ cs) = omega (arith, kind-nodes c.name c.kind, all-nodes cs)

pub schema-nodes : (columns : List Column) → Nodes (SchemaOf columns) ≡ 1 + nodes_of_columns columns
schema-nodes columns = omega (arith, all-nodes columns)

flat-levels : (columns : List Column) → AreFlat columns → depth_of_all (trees (map schema_of_column columns)) ≤ 1
flat-levels [] flat = omega arith
flat-levels (c ∷ cs) flat =
    let one : Depth (schema_of_column c)
    ≡ Depth (column_schema c.name (Flat (flat zero c (omega arith)).0)) = ap (λ (k : Kind). Depth (column_schema c.name k)) (flat zero c (omega arith)).1 in
    omega (arith, one, flat-levels cs (λ k d within. flat (suc k) d (omega arith)))

pub flat-depth : (columns : List Column) → AreFlat columns → Depth (SchemaOf columns) ≤ 2
flat-depth columns flat = omega (arith, flat-levels columns flat)

flat-nodes : (columns : List Column) → AreFlat columns → nodes_of_columns columns ≡ length columns
flat-nodes [] flat = omega arith
flat-nodes (c ∷ cs) flat =
    let one = ap nodes_of_kind (flat zero c (omega arith)).1 in
    omega (arith, one, flat-nodes cs (λ k d within. flat (suc k) d (omega arith)))

pub flat-size : (columns : List Column) → AreFlat columns → Nodes (SchemaOf columns) ≡ 1 + length columns
flat-size columns flat = omega (arith, all-nodes columns, flat-nodes columns flat)

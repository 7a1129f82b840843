-- The columns of a struct, as the code keeps them.
use Rattle.std.proofs.Common.{◌≡◌, ◌∙◌, ℕ, zero, suc, List, [], ◌∷◌, map, Some, refl, ap, subst, rules, arith}
use Rattle.std.specs.declared.vec.Vec.{Vec}
use Rattle.std.specs.declared.alloc.Global.{Global}
use Rattle.data_types.specs.promise.ColumnView.{members}
use Rattle.data_types.specs.ColumnView.{column_of, kind_of}
use Rattle.data_types.specs.promise.Table.{Column, Kind, Columns as StructOf}
use Rattle.data_types.specs.declared.kind.ColKind.{Columns}
use Rattle.data_types.specs.declared.kind.ColKind.TheViews.{the_lemmas}
use Rattle.data_types.specs.declared.kind.ColumnType.{ColumnType}
use Rattle.data_types.proofs.StructColumns.{row_is}
use Rattle.tree_model.specs.promise.TreeData.{Trees, absent, more_trees, trees}
use Rattle.raw_schema.specs.promise.Members.{SchemaMembers}
use Rattle.schema_check.specs.promise.ColumnSchema.{column_schema, member_schemas, node, nullable, struct_format}
use Rattle.schema_check.specs.ColumnSchema.{schema_of_column, KindsOk, MembersOk}
use Rattle.arr_export.specs.CodeSchema.{ColumnsOk, code_schemas}
use Rattle.arr_export.proofs.Costs.{schemas-mapped}

view : (v : Vec ColumnType Global) → kind_of (Columns v) ≡ StructOf (members (map column_of v.items))
view v = search (rules, the_lemmas, row_is)

schemas-are : (cs : List Column) → member_schemas (members cs) ≡ trees (map schema_of_column cs)
schemas-are [] = refl
schemas-are (c ∷ cs) = ap (λ (ts : Trees SchemaMembers). more_trees (schema_of_column c) ts) (schemas-are cs)

pub struct-schema : (name : List ℕ) (v : Vec ColumnType Global)
    → column_schema name (kind_of (Columns v)) ≡ node struct_format (Some name) nullable (code_schemas v.items) absent
struct-schema name v =
    ap (λ (k : Kind). column_schema name k) (view v)
    ∙ ap (λ (ts : Trees SchemaMembers). node struct_format (Some name) nullable ts absent)
    (schemas-are (map column_of v.items) ∙ ap trees (schemas-mapped v.items))

kinds-are : (cs : List ColumnType) → MembersOk (members (map column_of cs)) → ColumnsOk cs
kinds-are [] ok k d within = absurd (omega arith)
kinds-are (c ∷ cs) ok zero d within = ok.0
kinds-are (c ∷ cs) ok (suc k) d within = kinds-are cs ok.1 k d (omega arith)

pub struct-kinds : (v : Vec ColumnType Global) → KindsOk (kind_of (Columns v)) → ColumnsOk v.items
struct-kinds v ok = kinds-are v.items (subst KindsOk (view v) ok)

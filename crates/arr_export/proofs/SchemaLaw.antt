-- The schema of columns meets the rules, and names their types.
use Rattle.std.proofs.Common.{◌≤◌, ◌+◌, ℕ, suc, true, List, [], ◌∷◌, Option, None, Some, All, map, refl, inl, inr, arith}
use Rattle.data_types.specs.promise.FieldText.{form_of}
use Rattle.fmt_string.specs.promise.FormatString.{FormatIs}
use Rattle.data_types.specs.Kinds.{KindOk}
use Rattle.fmt_string.specs.promise.Spelling.{spelling_of}
use Rattle.data_types.specs.promise.Table.{Column, Kind, Flat, Dict, Columns, Members, no_members, more_members}
use Rattle.data_types.specs.declared.kind.DataType.{DataType}
use Rattle.data_types.specs.declared.kind.DataType.TheVariants as kinds
use Rattle.tree_model.specs.promise.TreeData.{Live, no_trees, absent, trees}
use Rattle.tree_model.specs.Tree.{Depth, depth_of_all}
use Rattle.col_build.specs.Encoding.{HasForm}
use Rattle.schema_check.specs.promise.Schemas.{ChildrenFit, MapFits, TypedFrom, KidsTyped, TypedOf}
use Rattle.schema_check.specs.promise.ColumnSchema.{SchemaOf, column_schema, member_schemas, values_schema}
use Rattle.schema_check.specs.ColumnSchema.{schema_of_column}
use Rattle.data_types.specs.promise.ColumnKinds.{type_of_columns, type_of_kind, types_of_members}
use Rattle.data_types.specs.ColumnKinds.{types_of_columns}
use Rattle.data_types.specs.ColumnForms.{AreColumnKinds, IsColumnKind, MembersAreColumns}

-- ---- the schema of a column
abbrev Spelled : Type 0
Spelled = (kind : DataType) → KindOk kind → FormatIs (spelling_of kind) kind

childless : (kind : DataType) → HasForm (form_of kind) → ChildrenFit kind no_trees
childless (kinds.List wide) has = absurd has
childless (kinds.FixedList size) has = absurd has
childless kinds.Map has = absurd has
childless kinds.Struct has = tt
childless kind has = refl

no-map : (kind : DataType) → HasForm (form_of kind) → MapFits kind no_trees
no-map kinds.Map has = absurd has
no-map kind has = tt

values : Spelled → (level : ℕ) (name : Option (List ℕ)) (kind : DataType) → IsColumnKind kind → level ≤ 64
    → TypedFrom level (values_schema name kind) (Live kind no_trees absent)
values spelled level name kind ok small = (
  record {
    on_level = small;
    format = spelled kind ok.0;
    meta = tt;
    children = childless kind ok.1;
    index = tt;
    map = no-map kind ok.1;
  },
  tt,
  tt,
)

mutual
  column : Spelled → (level : ℕ) (name : List ℕ) (kind : Kind) → AreColumnKinds kind → level + Depth (column_schema name kind) ≤ 65
      → TypedFrom level (column_schema name kind) (type_of_kind kind)
  column spelled level name (Flat kind) ok fits = values spelled level (Some name) kind ok (omega (arith, fits))
  column spelled level name (Dict kind) ok fits = (
    record {
      on_level = omega (arith, fits);
      format = spelled (kinds.Int 32 true) (inr (inr (inl refl)));
      meta = tt;
      children = refl;
      index = tt;
      map = tt;
    },
    tt,
    values spelled (level + 1) None kind ok (omega (arith, fits)),
  )
  column spelled level name (Columns members) ok fits = (
    record {
      on_level = omega (arith, fits);
      format = spelled kinds.Struct tt;
      meta = tt;
      children = tt;
      index = tt;
      map = tt;
    },
    columns-of spelled (level + 1) members ok (omega (arith, fits)),
    tt,
  )

  columns-of : Spelled → (level : ℕ) (members : Members) → MembersAreColumns members → level + depth_of_all (member_schemas members) ≤ 65
      → KidsTyped level (member_schemas members) (types_of_members members)
  columns-of spelled level no_members ok fits = tt
  columns-of spelled level (more_members name kind rest) ok fits =
      (column spelled level name kind ok.0 (omega (arith, fits)), columns-of spelled level rest ok.1 (omega (arith, fits)))

-- ---- the schema of all columns
all-columns : Spelled → (level : ℕ) (columns : List Column) → All (λ c. AreColumnKinds c.kind) columns
    → level + depth_of_all (trees (map schema_of_column columns)) ≤ 65
    → KidsTyped level (trees (map schema_of_column columns)) (trees (types_of_columns columns))
all-columns spelled level [] ok fits = tt
all-columns spelled level (c ∷ cs) ok fits = (
  column spelled level c.name c.kind (ok 0 c (omega (arith))) (omega (arith, fits)),
  all-columns spelled level cs
      (λ k d small. ok (suc k) d (omega (arith, small))) (omega (arith, fits)),
)

pub schema-typed : Spelled → (columns : List Column) → All (λ c. AreColumnKinds c.kind) columns → Depth (SchemaOf columns) ≤ 64
    → TypedOf (SchemaOf columns) (type_of_columns columns)
schema-typed spelled columns ok fits = (
  record {
    on_level = omega (arith);
    format = spelled kinds.Struct tt;
    meta = tt;
    children = tt;
    index = tt;
    map = tt;
  },
  all-columns spelled 2 columns ok (omega (arith, fits)),
  tt,
)

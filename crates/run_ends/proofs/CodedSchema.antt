-- The schema of values as runs is in order, and has their kinds.
use Rattle.std.proofs.Common.{ℕ, pos, ℤ, List, Option, None, Some, refl, inl, inr, arith}
use Rattle.std.specs.Prelude.{codes}
use Rattle.data_types.specs.ColumnForms.{HasForm, IsColumnKind}
use Rattle.data_types.specs.promise.FieldText.{form_of}
use Rattle.data_types.specs.Kinds.{KindOk}
use Rattle.data_types.specs.declared.kind.DataType.{DataType}
use Rattle.data_types.specs.declared.kind.DataType.TheVariants as kinds
use Rattle.fmt_string.specs.promise.FormatString.{FormatIs}
use Rattle.fmt_string.specs.promise.Spelling.{spelling_of}
use Rattle.tree_model.specs.promise.TreeData.{no_trees, absent}
use Rattle.schema_check.specs.promise.ColumnSchema.{node}
use Rattle.schema_check.specs.promise.Schemas.{ChildrenFit, MapFits, TypedOf}
use Rattle.arr_export.specs.ArrayTrees.{flat_type}
use Rattle.run_ends.specs.promise.RunSchemas.{RunsOf}
use Rattle.run_ends.specs.RunCoding.{end_kind, runs_type, runs_schema}

no_children : (kind : DataType) → HasForm (form_of kind) → ChildrenFit kind no_trees
no_children (kinds.List wide) flat = absurd flat
no_children (kinds.FixedList size) flat = absurd flat
no_children kinds.Map flat = absurd flat
no_children kinds.Struct flat = tt
no_children _ flat = refl

no_map : (kind : DataType) → HasForm (form_of kind) → MapFits kind no_trees
no_map kinds.Map flat = absurd flat
no_map _ flat = tt

abbrev pub SpelledLaw : Type 0
SpelledLaw = (kind : DataType) → KindOk kind → FormatIs (spelling_of kind) kind

flat-typed : SpelledLaw → (kind : DataType) (name : Option (List ℕ)) (flags : ℤ) → IsColumnKind kind
    → TypedOf (node (spelling_of kind) name flags no_trees absent) (flat_type kind None)
flat-typed law kind name flags is = (
  record {
    on_level = omega arith;
    format = law kind is.0;
    meta = tt;
    children = no_children kind is.1;
    index = tt;
    map = no_map kind is.1;
  },
  tt,
  tt,
)

pub coded_schema : SpelledLaw → (kind : DataType) → IsColumnKind kind → RunsOf (runs_schema kind) (runs_type kind)
coded_schema law kind is =
    record {
      over = record {
        plain = record { runs = record { live = tt; spelled = refl }; plain = (tt, refl) };
        count = refl;
        kids = (
          flat-typed law end_kind (Some (codes "run_ends")) (pos 0) (inr (inr (inl refl)), tt),
          (flat-typed law kind (Some (codes "values")) (pos 2) is, tt),
        );
      };
      ends = inr (inl refl);
    }

-- What contracts see of an import: the two trees, and the kinds of the schema.
use Rattle.raw_array.specs.promise.Members.{ArrayTree}
use Rattle.raw_schema.specs.promise.Members.{SchemaTree}
use Rattle.data_types.specs.declared.typed.Typed.{Typed}
use Rattle.data_types.specs.KindTrees.{TypedOk}
use Rattle.schema_check.specs.promise.Schemas.{TypedOf}
use Rattle.data_types.specs.promise.TypedView.{typed_of}
use Rattle.layout_rules.specs.promise.Walk.{LayoutOk}

pub record ImportedTrees : Type 0 where
  pub schema : SchemaTree
  pub array : ArrayTree
  pub typed : Typed

-- both checks accept them
pub record AreChecked (schema : SchemaTree) (array : ArrayTree) (typed : Typed) : Type 0 where
  pub kinds : TypedOf schema (typed_of typed)
  pub types : TypedOk (typed_of typed)
  pub lawful : LayoutOk (typed_of typed) array

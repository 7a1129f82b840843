use Rattle.std.proofs.Common.{◌≡◌, Result, Ok, map, subst, sym}
use Rattle.data_types.specs.ColumnView.{column_of}
use Rattle.data_types.specs.promise.KindTrees.{KindTree}
use Rattle.schema_check.specs.promise.SchemaAnswers.{FirstFault}
use Rattle.schema_check.specs.promise.Schemas.{TypedOf}
use Rattle.data_types.specs.promise.ColumnKinds.{type_of_columns}
use Rattle.stream_tests.proofs.texts.typed_columns.Goals as goal

same-kinds : (a b : KindTree) → ◌≡◌ {A = Result KindTree FirstFault} (Ok a) (Ok b) → b ≡ a
same-kinds a b e = cc

pub returns-clause-typed : goal.returns-clause-typed
returns-clause-typed g c =
    let columns = map column_of c.args.columns.now in
    let law = c.column_schemas_are_lawful.ensures columns c.requires.kinds c.requires.not_deep in
    same-kinds (type_of_columns columns) _
    (c.in-Ok-check_schema.ensures.only (Ok (type_of_columns columns)) (subst (λ s. TypedOf s (type_of_columns columns)) (sym c.in-Ok.ensures.tree) law))

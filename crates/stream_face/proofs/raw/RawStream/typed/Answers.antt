use Rattle.std.proofs.Common.{sym, subst}
use Rattle.schema_check.specs.promise.Schemas.{TypedOf}
use Rattle.data_types.specs.promise.ColumnKinds.{type_of_columns}
use Rattle.stream_face.proofs.raw.RawStream.typed.Goals as goal

pub returns-clause-lawful : goal.returns-clause-lawful
returns-clause-lawful g c = λ lawful.
    let s = g.S.ArrayStream.state c.args.self.now.inner in
    let same = c.args.self.now.same c.requires lawful in
    let typed = (c.lawful_facts.ensures.columns lawful).typed in
    sym (c.typed.ensures.only (type_of_columns s.columns) (subst (λ t. TypedOf t (type_of_columns s.columns)) (sym same) typed))

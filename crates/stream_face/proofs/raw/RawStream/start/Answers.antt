use Rattle.std.proofs.Common.{◌∙◌, None, ap, of_z, refl, sym, subst, w32}
use Rattle.schema_check.specs.promise.Schemas.{TypedOf}
use Rattle.data_types.specs.promise.ColumnKinds.{type_of_columns}
use Rattle.stream_face.specs.Calls.{IsCode, Tells}
use Rattle.stream_face.specs.Streams.{telling}
use Rattle.stream_face.proofs.Joints.{tells_nothing}
use Rattle.stream_face.proofs.Next.{same, is_zero}
use Rattle.stream_face.proofs.raw.RawStream.start.Goals as goal

pub returns-then-code-ne0-clause-refused : goal.returns-then-code-ne0-clause-refused
returns-then-code-ne0-clause-refused g c =
    let said = (g.S.ArrayStream.state c.get_schema-code.new.self).said in
    let call = c.get_schema-code.ensures in
    let e = same c.get_schema-code.result c.get_schema-code.type_inv in (
      said,
      call.same,
      (
        subst (λ z. Tells z said) (sym e) call.tells,
        λ z. c.if-code-ne0.true (ap (of_z w32) (sym e ∙ z)),
        subst IsCode (sym e) call.code,
        λ lawful. e ∙ (subst (Tells c.get_schema-code.result) ((call.lawful lawful).wants (λ z. c.if-code-ne0.true (ap (of_z w32) z))) call.tells).0,
      ),
    )

pub returns-in-Err-clause-refused : goal.returns-in-Err-clause-refused
returns-in-Err-clause-refused g c =
    let s = g.S.ArrayStream.state c.args.inner in
    let call = c.get_schema-code.ensures in
    let zero = is_zero c.get_schema-code.result c.get_schema-code.type_inv c.if-code-ne0.false in
    let silent = tells_nothing c.get_schema-code.result (g.S.ArrayStream.state c.get_schema-code.new.self).said call.tells zero in (
      None,
      call.same ∙ ap (λ said. telling said s) silent,
      (
        refl,
        (c.get_schema-code.new.out, call.told zero, c.in-Err.ensures.fault),
        λ lawful.
            let typed = (c.lawful_facts.ensures.columns lawful).typed in
            c.in-Err.ensures.only (type_of_columns s.columns)
            (subst (λ t. TypedOf t (type_of_columns s.columns)) (sym ((call.lawful lawful).given zero)) typed),
      ),
    )

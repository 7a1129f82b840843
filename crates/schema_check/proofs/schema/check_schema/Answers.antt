use Rattle.std.proofs.Common.{rules}
use Rattle.std.specs.Prelude.{IfOk, IfErr}
use Rattle.schema_check.specs.promise.Schemas.{TypedOf}
use Rattle.schema_check.specs.SchemaAnswers.{IsFirstFault}
use Rattle.data_types.specs.promise.TypedView.{typed_of}
use Rattle.schema_check.proofs.SchemaOne.{gives}
use Rattle.schema_check.proofs.schema.check_schema.Goals as goal

pub returns-clause-only : goal.returns-clause-only
returns-clause-only c =
    let schema = c.args.schema.now in
    let found : IfOk c.typed_from.result (λ typed. TypedOf schema (typed_of typed)) = search rules in
    let fault : IfErr c.typed_from.result (IsFirstFault schema) = search rules in
    gives c.one_schema_answer.ensures schema c.typed_from.result found fault

use Rattle.std.proofs.Common.{rules, ◌≡◌, Result, Ok}
use Rattle.data_types.specs.promise.KindTrees.{KindTree}
use Rattle.schema_check.specs.promise.Schemas.{TypedOf}
use Rattle.schema_check.specs.promise.SchemaAnswers.{FirstFault}
use Rattle.data_types.specs.promise.TypedView.{typed_of}
use Rattle.stream_face.proofs.checked_schema.CheckedSchema.typed.Goals as goal

pub returns-clause-only : goal.returns-clause-only
returns-clause-only c =
    λ (kinds : KindTree) (typed : TypedOf c.args.self.now.schema kinds).
    let own : TypedOf c.args.self.now.schema (typed_of c.args.self.now.typed) = search rules in
    let first : Result KindTree FirstFault = Ok kinds in
    let second : Result KindTree FirstFault = Ok (typed_of c.args.self.now.typed) in
    let e : first ≡ second = c.one_schema_answer.ensures c.args.self.now.schema first second typed own in
    cc e

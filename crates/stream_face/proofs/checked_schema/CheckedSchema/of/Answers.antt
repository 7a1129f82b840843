use Rattle.std.proofs.Common.{◌≡◌, Ok, Err, refl}
use Rattle.schema_check.specs.declared.schema.SchemaFault.{SchemaFault}
use Rattle.schema_check.specs.declared.schema.SchemaFault.TheVariants.{At, NoMemory}
use Rattle.data_types.specs.promise.KindTrees.{KindTree}
use Rattle.schema_check.specs.promise.Schemas.{TypedOf}
use Rattle.schema_check.specs.SchemaAnswers.{Gives}
use Rattle.stream_face.proofs.checked_schema.CheckedSchema.of.Goals as goal

memory : (fault : SchemaFault) (kinds : KindTree) → Gives (Err fault) (Ok kinds) → fault ≡ NoMemory
memory (At path rule) kinds e = absurd (cc)
memory NoMemory kinds e = refl

pub returns-in-Err-clause-only : goal.returns-in-Err-clause-only
returns-in-Err-clause-only c =
    λ (kinds : KindTree) (typed : TypedOf c.args.schema kinds). memory c.in-Err.fault kinds (c.in-Err.ensures.only (Ok kinds) typed)

use Rattle.std.proofs.Common.{◌≡◌, Ok, Err, refl, sym, subst, true≢false}
use Rattle.schema_check.specs.declared.schema.SchemaFault.{SchemaFault}
use Rattle.schema_check.specs.declared.schema.SchemaFault.TheVariants.{At, NoMemory}
use Rattle.data_types.specs.promise.KindTrees.{KindTree}
use Rattle.schema_check.specs.promise.Schemas.{TypedOf}
use Rattle.schema_check.specs.SchemaAnswers.{Gives}
use Rattle.data_types.specs.promise.TypedView.{typed_of}
use Rattle.layout_rules.specs.promise.Walk.{LayoutOk}
use Rattle.tree_check.specs.declared.imported.ImportFault.TheVariants.{Schema}
use Rattle.tree_check.proofs.imported.import.Goals as goal

memory : (fault : SchemaFault) (typed : KindTree) → Gives (Err fault) (Ok typed) → Schema fault ≡ Schema NoMemory
memory (At path rule) typed e = absurd (cc)
memory NoMemory typed e = refl

pub returns-in-Err-clause-only : goal.returns-in-Err-clause-only
returns-in-Err-clause-only c =
    λ (typed : KindTree) (kinds : TypedOf c.args.schema typed) (lawful : LayoutOk typed c.args.array).
    memory c.in-Err.fault typed (c.in-Err.ensures.only (Ok typed) kinds)

pub returns-in-Err-check_array-clause-only : goal.returns-in-Err-check_array-clause-only
returns-in-Err-check_array-clause-only c =
    λ (typed : KindTree) (kinds : TypedOf c.args.schema typed) (lawful : LayoutOk typed c.args.array).
    let given : Gives (Ok c.in-Ok.typed) (Ok typed) = c.in-Ok.ensures.only (Ok typed) kinds in
    let same : typed ≡ typed_of c.in-Ok.typed = cc given in
    absurd (true≢false (sym (c.in-Err-check_array.ensures.lawful.1 (subst (λ t. LayoutOk t c.args.array) same lawful))))

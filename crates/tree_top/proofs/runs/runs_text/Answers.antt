use Rattle.std.proofs.Common.{◌≡◌, ◌⊎◌, IfErr, IfOk, refl, subst, sym}
use Rattle.data_types.specs.promise.TypedView.{typed_of}
use Rattle.tree_top.specs.AnswerParts.{runs_of_array, runs_of_kinds}
use Rattle.tree_top.specs.promise.TextOrFault.{Fault, Text}
use Rattle.tree_top.specs.declared.fault.TreeRunFault.TheVariants as run
use Rattle.tree_top.proofs.Coming.{kinds-answer, kinds-refused, schema-refused}
use Rattle.tree_top.proofs.Running.{column-refused}
use Rattle.tree_top.proofs.runs.runs_text.Goals as goal

pub returns-in-Err-clause-fault : goal.returns-in-Err-clause-fault
returns-in-Err-clause-fault c =
    schema-refused (λ read. runs_of_kinds read c.args.array.now) (λ first. refl) c.args.schema.now c.in-Err.fault c.from.result c.from-in-Err.result
    c.from.ensures c.from-in-Err.ensures c.in-Err.ensures.fault

pub returns-in-Ok-check_array-clause-text : goal.returns-in-Ok-check_array-clause-text
returns-in-Ok-check_array-clause-text c =
    let typed = typed_of c.in-Ok.typed in
    let array = c.args.array.now in
    kinds-answer (λ read. runs_of_kinds read array) (λ first. refl) c.args.schema.now typed c.in-Ok.ensures.found (λ text. text.items) c.column_text.result
    (subst (λ f. IfOk c.column_text.result (λ text. Text text.items ≡ runs_of_array typed array f)) c.in-Ok-check_array.ensures.fault
    c.column_text.ensures.text)

pub returns-in-Ok-check_array-clause-fault : goal.returns-in-Ok-check_array-clause-fault
returns-in-Ok-check_array-clause-fault c =
    let typed = typed_of c.in-Ok.typed in
    let array = c.args.array.now in
    kinds-refused (λ read. runs_of_kinds read array) (λ first. refl) c.args.schema.now typed c.in-Ok.ensures.found c.column_text.result
    (subst (λ f. IfErr c.column_text.result (λ fault. (fault ≡ run.NoMemory) ⊎ (Fault fault ≡ runs_of_array typed array f)))
    c.in-Ok-check_array.ensures.fault c.column_text.ensures.fault)

pub returns-clause-fault : goal.returns-clause-fault
returns-clause-fault c =
    column-refused c.args.schema.now c.args.array.now (typed_of c.in-Ok.typed) c.in-Ok.ensures.found c.in-Err-check_array.fault
    c.from-in-Err-check_array.result c.from-in-Err-check_array-2.result c.from-in-Err-check_array.ensures c.from-in-Err-check_array-2.ensures
    (sym c.in-Err-check_array.ensures.fault)

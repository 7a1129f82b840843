use Rattle.std.proofs.Common.{subst}
use Rattle.data_types.specs.promise.TypedView.{typed_of}
use Rattle.data_types.specs.promise.Ways.{steps_of}
use Rattle.layout_rules.specs.promise.Walk.{ChunkOk, LayoutOk}
use Rattle.schema_check.specs.SchemaAnswers.{IsFirstFault}
use Rattle.tree_top.proofs.NewRows.{made-text, no-fault, same-kinds}
use Rattle.tree_top.proofs.chunk.chunk_lines.Goals as goal

pub items_text-requires-clause-lawful : goal.items_text-requires-clause-lawful
items_text-requires-clause-lawful c =
    let kinds = c.requires.chunk in
    let same = same-kinds c.one_schema_answer.ensures c.args.schema.now kinds.0 kinds.1 (typed_of c.in-Ok.typed) c.in-Ok.ensures.found in
    subst (λ t. LayoutOk t c.args.array.now) same kinds.2.0

pub unreachable-requires : goal.unreachable-requires
unreachable-requires c =
    let kinds = c.requires.chunk in
    no-fault c.one_schema_answer.ensures c.args.schema.now kinds.0 kinds.1 (steps_of c.in-Err-At.field-0-0) c.in-Err-At.field-0-1
    (subst (IsFirstFault c.args.schema.now) c.in-Err-At.field-0-is c.in-Err-At.ensures.fault)

pub returns-in-Ok : goal.returns-in-Ok
returns-in-Ok c =
    let kinds = c.requires.chunk in
    let one = c.one_schema_answer.ensures in
    let same = same-kinds one c.args.schema.now kinds.0 kinds.1 (typed_of c.in-Ok.typed) c.in-Ok.ensures.found in
    made-text one c.args.schema.now (typed_of c.in-Ok.typed) c.in-Ok.ensures.found c.chunks_are_tables.ensures.chunk c.args.array.now c.in-Ok.ensures.valid
    (subst (λ t. ChunkOk t c.args.array.now) same kinds.2) (λ text. text.items) c.items_text.result c.items_text.ensures.text

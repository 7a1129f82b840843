use Rattle.std.proofs.Common.{◌∙◌, length, sym}
use Rattle.std.proofs.lemmas.Bool.{false≢true}
use Rattle.data_types.specs.promise.TypedView.{typed_of}
use Rattle.layout_rules.specs.promise.Values.{tree_items}
use Rattle.tree_model.specs.promise.TreeParts.{children_of}
use Rattle.union_cols.specs.promise.Tags.{tag_fault}
use Rattle.union_cols.specs.Tags.{tagged_kinds}
use Rattle.tree_top.proofs.Tagging.{columns-refused, made-refused, made-text}
use Rattle.tree_top.proofs.tags.columns_text.Goals as goal

pub returns-in-Ok-clause-text : goal.returns-in-Ok-clause-text
returns-in-Ok-clause-text c =
    let typed = typed_of c.args.typed.now in
    let array = c.args.array in
    let fault = tag_fault c.args.dense (length (children_of array)) (tree_items array) in
    made-text typed array fault c.one_union_answer.ensures.schemas c.in-Ok.schema c.in-Ok.array (tagged_kinds c.args.dense typed) c.in-Ok.ensures.checks
    c.in-Ok.ensures.items (sym c.in-Ok.ensures.fault) (λ text. text.items) c.union_text-answer.result c.union_text-answer.ensures.text

pub returns-in-Ok-clause-fault : goal.returns-in-Ok-clause-fault
returns-in-Ok-clause-fault c =
    let typed = typed_of c.args.typed.now in
    let array = c.args.array in
    let fault = tag_fault c.args.dense (length (children_of array)) (tree_items array) in
    made-refused typed array fault c.one_union_answer.ensures.schemas c.in-Ok.schema c.in-Ok.array (tagged_kinds c.args.dense typed) c.in-Ok.ensures.checks
    c.in-Ok.ensures.items (sym c.in-Ok.ensures.fault) c.union_text-answer.result c.union_text-answer.ensures.fault

pub returns-in-Err-clause-fault : goal.returns-in-Err-clause-fault
returns-in-Err-clause-fault c =
    let typed = typed_of c.args.typed.now in
    let array = c.args.array in
    columns-refused typed array (tag_fault c.args.dense (length (children_of array)) (tree_items array)) c.in-Err.fault c.from.result c.from.ensures
    c.in-Err.ensures.fault

pub returns-in-Ok-clause-many : goal.returns-in-Ok-clause-many
returns-in-Ok-clause-many c = λ none long. absurd (false≢true (sym c.if-is_tagged_too_long.false ∙ c.is_tagged_too_long.ensures.many none long))

pub returns-in-Err-clause-many : goal.returns-in-Err-clause-many
returns-in-Err-clause-many c = λ none long. absurd (false≢true (sym c.if-is_tagged_too_long.false ∙ c.is_tagged_too_long.ensures.many none long))

use Rattle.data_types.specs.promise.TypedView.{typed_of}
use Rattle.tree_top.specs.AnswerParts.{tags_of_columns}
use Rattle.tree_top.proofs.Chunks.{chunk-fault, chunk-text, said-one}
use Rattle.tree_top.proofs.tags.tag_text.Goals as goal

pub returns-in-Ok-clause-text : goal.returns-in-Ok-clause-text
returns-in-Ok-clause-text c =
    chunk-text c.args.schema c.args.array (typed_of c.in-Ok.typed) c.in-Ok.ensures.found c.in-Ok.ensures.passed (tags_of_columns c.args.dense)
    (λ text. text.items) c.columns_text.result c.columns_text.ensures.text

pub returns-in-Ok-clause-fault : goal.returns-in-Ok-clause-fault
returns-in-Ok-clause-fault c =
    chunk-fault c.args.schema c.args.array (typed_of c.in-Ok.typed) c.in-Ok.ensures.found c.in-Ok.ensures.passed (tags_of_columns c.args.dense)
    c.columns_text.result c.columns_text.ensures.fault

pub returns-in-Err-clause-fault : goal.returns-in-Err-clause-fault
returns-in-Err-clause-fault c = said-one (tags_of_columns c.args.dense) c.in-Err.ensures.fault

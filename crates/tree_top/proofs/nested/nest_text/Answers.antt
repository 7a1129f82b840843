use Rattle.data_types.specs.promise.TypedView.{typed_of}
use Rattle.tree_top.specs.AnswerParts.{nested}
use Rattle.tree_top.proofs.Chunks.{said-one}
use Rattle.tree_top.proofs.NewRows.{both-made, rows-fault, rows-text}
use Rattle.tree_top.proofs.nested.nest_text.Goals as goal

pub returns-in-Ok-clause-text : goal.returns-in-Ok-clause-text
returns-in-Ok-clause-text c =
    rows-text c.args.schema c.args.array c.args.column (typed_of c.in-Ok.typed) c.in-Ok.ensures.found c.in-Ok.ensures.passed c.in-Ok.ensures.there
    (nested c.args.column) (λ text. text.items) c.nested_text.result c.nested_text.ensures.text

pub returns-in-Ok-clause-fault : goal.returns-in-Ok-clause-fault
returns-in-Ok-clause-fault c =
    rows-fault c.args.schema c.args.array c.args.column (typed_of c.in-Ok.typed) c.in-Ok.ensures.found c.in-Ok.ensures.passed c.in-Ok.ensures.there
    (nested c.args.column) c.nested_text.result c.nested_text.ensures.fault

pub returns-in-Err-clause-fault : goal.returns-in-Err-clause-fault
returns-in-Err-clause-fault c = said-one (nested c.args.column) c.in-Err.ensures.fault

pub returns-in-Ok-clause-made : goal.returns-in-Ok-clause-made
returns-in-Ok-clause-made c =
    both-made c.nested_text.result _ _ _ (λ blocks nodes. (typed_of c.in-Ok.typed, c.in-Ok.ensures.found, blocks, nodes)) c.nested_text.ensures.blocks
    c.nested_text.ensures.nodes

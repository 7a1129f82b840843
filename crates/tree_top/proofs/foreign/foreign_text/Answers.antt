use Rattle.std.proofs.Common.{refl}
use Rattle.data_types.specs.promise.TypedView.{typed_of}
use Rattle.tree_top.specs.AnswerParts.{chunk_of_kinds}
use Rattle.tree_top.proofs.Coming.{kinds-answer, kinds-refused, schema-refused}
use Rattle.tree_top.proofs.foreign.foreign_text.Goals as goal

pub returns-in-Ok-clause-text : goal.returns-in-Ok-clause-text
returns-in-Ok-clause-text c =
    kinds-answer (λ read. chunk_of_kinds read c.args.array) (λ first. refl) c.args.schema (typed_of c.in-Ok.typed) c.in-Ok.ensures.found (λ text. text.items)
    c.chunk_text.result c.chunk_text.ensures.text

pub returns-in-Ok-clause-fault : goal.returns-in-Ok-clause-fault
returns-in-Ok-clause-fault c =
    kinds-refused (λ read. chunk_of_kinds read c.args.array) (λ first. refl) c.args.schema (typed_of c.in-Ok.typed) c.in-Ok.ensures.found c.chunk_text.result
    c.chunk_text.ensures.fault

pub returns-in-Err-clause-fault : goal.returns-in-Err-clause-fault
returns-in-Err-clause-fault c =
    schema-refused (λ read. chunk_of_kinds read c.args.array) (λ first. refl) c.args.schema c.in-Err.fault c.from.result c.from-in-Err.result
    c.from.ensures c.from-in-Err.ensures c.in-Err.ensures.fault

use Rattle.std.proofs.Common.{rules}
use Rattle.std.specs.Prelude.{IfOk, IfErr}
use Rattle.union_cols.specs.promise.UnionSchemas.{UnionOf}
use Rattle.union_cols.specs.UnionAnswers.{union_of, IsUnionFault}
use Rattle.union_cols.proofs.OneUnion.{gives_union}
use Rattle.union_cols.proofs.read.read_union.Goals as goal

pub returns-clause-only : goal.returns-clause-only
returns-clause-only c =
    let schema = c.args.schema.now in
    let found : IfOk c.union_kinds.result (λ typed. UnionOf schema (union_of typed)) = search rules in
    let fault : IfErr c.union_kinds.result (IsUnionFault schema) = search rules in
    gives_union c.one_union_answer.ensures.schemas schema c.union_kinds.result found fault
